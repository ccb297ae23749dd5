-- The first refusal of an entry has a small place: objects and variables are few.
use Rattle.std.specs.Prelude.{ℕ, zero, suc, ◌+◌, ◌<◌, ◌≤◌, refl, Bool, true, false, List, [], ◌∷◌, ◌++◌}
use Rattle.std.proofs.Common.{arith}
use Rattle.answers.specs.declared.refusals.Refusal.{Refusal}
use Rattle.answers.specs.declared.refusals.Refusal.TheVariants.{DirectoryPair, EntryValue, LastCell}
use Rattle.words.specs.Sections.{Limits}
use Rattle.words.specs.declared.sections.Sections.{Sections}
use Rattle.rules.specs.declared.Environment.{Environment}
use Rattle.entry.specs.Entry.{memory_right, pair_right, lengths_right, entry_right, last_right, cons_unless, failures, entry_refusals}
use Rattle.rules.specs.Small.{RefusalSmall, FirstSmall, none-small, one-small}

unless-small : (b : Bool) {f : Refusal} {fs : List Refusal} → RefusalSmall f → FirstSmall fs → FirstSmall (cons_unless b f fs)
unless-small true s r = r
unless-small false s r = one-small s

joined_small : {fs gs : List Refusal} → FirstSmall fs → FirstSmall gs → FirstSmall (fs ++ gs)
joined_small {fs} {gs} p q = go fs p
  where
    go : (xs : List Refusal) → FirstSmall xs → FirstSmall (xs ++ gs)
    go [] p = q
    go (x ∷ xs) p = one-small (p.small x xs refl)

failures-small : (right : ℕ → Bool) (r : ℕ → Refusal) (n i : ℕ) → i + n ≤ 16 → ((j : ℕ) → j < 16 → RefusalSmall (r j)) → FirstSmall (failures right r n i)
unfolding failures
failures-small right r zero i l s = none-small
failures-small right r (suc n) i l s = unless-small (right i) (s i (omega arith)) (failures-small right r n (i + 1) (omega arith) s)

pub entry-small : (h : Sections) (E : Environment) (D cs vs os : List ℕ) → Limits h → FirstSmall (entry_refusals h E D cs vs os)
unfolding entry_refusals
entry-small h E D cs vs os w =
    unless-small (memory_right h D cs) (record { place-small = omega arith; pointer-small = omega arith })
    (joined_small (failures-small (pair_right E D cs) DirectoryPair h.objects 0 (omega (arith, w.objects))
    (λ j l. record { place-small = omega arith; pointer-small = omega arith }))
    (unless-small (lengths_right h vs os) (record { place-small = omega arith; pointer-small = omega arith })
    (joined_small (failures-small (entry_right E D vs os) EntryValue h.variables 0 (omega (arith, w.variables))
    (λ j l. record { place-small = omega arith; pointer-small = omega arith }))
    (failures-small (last_right E D cs) LastCell h.objects 0 (omega (arith, w.objects))
    (λ j l. record { place-small = omega arith; pointer-small = omega arith })))))
