-- The walk over a block and then another is the walk over the other from the state that the one leaves; its faults are those of the one, then those of the
-- other from there.
use Rattle.std.specs.Prelude.{ℕ, ◌+◌, ◌≡◌, List, [], ℤ}
use Rattle.std.proofs.Math.Path.{refl}
use Rattle.std.proofs.Common.{sym, ◌∙◌, ap}
use Rattle.std.proofs.Math.ListN.{length}
use Rattle.answers.specs.declared.refusals.Refusal.{Refusal}
use Rattle.conditions.specs.Conditions.{negated_of}
use Rattle.blocks.specs.Tree.{Block, nil, plain, branch, loop, bundle, call, unread, assigned}
use Rattle.blocks.specs.Layout.{also}
use Rattle.blocks.specs.Shape.{size, Numbered}
use Rattle.listed.specs.Entries.{entries_of}
use Rattle.bundles.specs.BundleLaws.{also-assoc}
use Rattle.rules.specs.FactSets.{FactSets, State}
use Rattle.rules.specs.Rules.{state_after, called_state, assumed, at_head, sides_joined, bundle_after, block_after, block_faults}
use Rattle.rules.specs.declared.Environment.{Environment}
use Rattle.edits.specs.Followed.{followed}

-- L is the list of loop facts (point 9).
module _ (S : FactSets) (E : Environment) (L : List ℤ) where
  open S use {Facts}

  pub after-followed : (t u : Block) (a : ℕ) → Numbered t a → (w : State Facts)
      → block_after S E L (followed t u) w ≡ block_after S E L u (block_after S E L t w)
  unfolding followed block_after
  after-followed nil u a n w = refl
  after-followed (plain x s r) u a n w = after-followed r u (x + 1) n.1 _
  after-followed (call x s r) u a n w = after-followed r u (x + 1) n.1 _
  after-followed (branch x c t e r) u a n w = after-followed r u (x + 1 + size t + size e) n.3 _
  after-followed (loop x c t r) u a n w = after-followed r u (x + 1 + size t) n.2 _
  after-followed (bundle x ss r) u a n w = after-followed r u (x + 1 + length ss) n.1 _
  after-followed (unread x) u a n w = absurd n

  -- One, two or three parts before the rest of a block.
  part : (xs zs us : List Refusal) {ys : List Refusal} → ys ≡ also zs us → also xs ys ≡ also (also xs zs) us
  part xs zs us e = ap (also xs) e ∙ sym (also-assoc xs zs us)

  none_before : (ys : List Refusal) → ys ≡ also [] ys
  unfolding also
  none_before ys = refl

  pub faults-followed : (t u : Block) (a : ℕ) → Numbered t a → (w : State Facts)
      → block_faults S E L [] (followed t u) w ≡ also (block_faults S E L [] t w) (block_faults S E L [] u (block_after S E L t w))
  unfolding followed block_after block_faults
  faults-followed nil u a n w = none_before _
  faults-followed (plain x s r) u a n w = part _ _ _ (part _ _ _ (faults-followed r u (x + 1) n.1 (state_after S s w)))
  faults-followed (call x s r) u a n w = part _ _ _ (part _ _ _ (faults-followed r u (x + 1) n.1 (called_state S s w)))
  faults-followed (branch x c t e r) u a n w =
      part _ _ _ (part _ _ _ (part _ _ _ (faults-followed r u (x + 1 + size t + size e) n.3
      (sides_joined S E (block_after S E L t (assumed S w c)) (block_after S E L e (assumed S w (negated_of c)))))))
  faults-followed (loop x c t r) u a n w =
      part _ _ _ (part _ _ _ (part _ _ _ (part _ _ _ (faults-followed r u (x + 1 + size t) n.2
      (assumed S (at_head S (entries_of L x) (assigned t) w) (negated_of c))))))
  faults-followed (bundle x ss r) u a n w = part _ _ _ (part _ _ _ (faults-followed r u (x + 1 + length ss) n.1 (bundle_after S ss w)))
  faults-followed (unread x) u a n w = absurd n
