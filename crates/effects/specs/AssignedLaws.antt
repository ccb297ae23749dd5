-- What a block assigns is what its records assign, one by one.
use Rattle.statements.specs.declared.Statement.{Statement}
use Rattle.std.specs.Prelude.{ℕ, zero, suc, ◌+◌, ◌≡◌, refl, List, [], ◌∷◌, ◌++◌, ℤ, length, Option}
use Rattle.std.proofs.Common.{sym, ◌∙◌, ap, ap₂, append_assoc, arith}
use Rattle.words.specs.declared.sections.Sections.{Sections}
use Rattle.statements.specs.declared.Simple.{Simple}
use Rattle.statements.specs.Statements.{statement_at}
use Rattle.blocks.specs.Tree.{Block, nil, plain, branch, loop, bundle, call, unread, target, targets, call_target, assigned}
use Rattle.blocks.specs.Shape.{size, Numbered, ReadsLine, Reads}
use Rattle.effects.specs.Marks.{target_of, targets_from}

targets-more : (T : List ℤ) (h : Sections) (a n m k b : ℕ) → k ≡ n + m → b ≡ a + n
    → targets_from T h a k ≡ targets_from T h a n ++ targets_from T h b m
unfolding targets_from
targets-more T h a zero m k b e q =
    let x : k ≡ m = omega arith in
    let y : b ≡ a = omega arith in
    rw (x, y)
targets-more T h a (suc n) m zero b e q = absurd (omega arith)
targets-more T h a (suc n) m (suc k) b e q =
    ap (λ (l : List ℕ). target_of (statement_at T h a) ++ l) (targets-more T h (a + 1) n m k b (omega arith) (omega arith))
    ∙ sym (append_assoc (target_of (statement_at T h a)) (targets_from T h (a + 1) n) (targets_from T h b m))

targets-head : (T : List ℤ) (h : Sections) (a n k : ℕ) (s : Option Statement) → k ≡ 1 + n → statement_at T h a ≡ s
    → target_of s ++ targets_from T h (a + 1) n ≡ targets_from T h a k
unfolding targets_from
targets-head T h a n zero s e r = absurd (omega arith)
targets-head T h a n (suc k) s e r = let x : k ≡ n = omega arith in rw (x, r)

targets-line : (T : List ℤ) (h : Sections) (a : ℕ) (ss : List Simple) → ReadsLine T h a ss → targets ss ≡ targets_from T h a (length ss)
unfolding targets targets_from
targets-line T h a [] r = refl
targets-line T h a (s ∷ ss) r = ap₂ ◌++◌ (ap target_of (sym r.0)) (targets-line T h (a + 1) ss r.1)

pub assigned-targets : (T : List ℤ) (h : Sections) (t : Block) (a : ℕ) → Numbered t a → Reads T h t → assigned t ≡ targets_from T h a (size t)
unfolding assigned size targets_from
assigned-targets T h nil a n r = refl
assigned-targets T h (plain k s t) a n r =
    ap (λ (l : List ℕ). target s ++ l) (assigned-targets T h t (k + 1) n.1 r.1)
    ∙ (targets-head T h k (size t) (1 + size t) _ refl r.0 ∙ ap (λ (x : ℕ). targets_from T h x (1 + size t)) n.0)
assigned-targets T h (branch k c t e u) a n r =
    ap₂ ◌++◌ (assigned-targets T h t (k + 1) n.1 r.1)
    (ap₂ ◌++◌ (assigned-targets T h e (k + 1 + size t) n.2 r.2) (assigned-targets T h u (k + 1 + size t + size e) n.3 r.3)
    ∙ sym (targets-more T h (k + 1 + size t) (size e) (size u) (size e + size u) (k + 1 + size t + size e) refl refl))
    ∙ (sym (targets-more T h (k + 1) (size t) (size e + size u) (size t + size e + size u) (k + 1 + size t) (omega arith) refl)
    ∙ (targets-head T h k (size t + size e + size u) (1 + size t + size e + size u) _ (omega arith) r.0
    ∙ ap (λ (x : ℕ). targets_from T h x (1 + size t + size e + size u)) n.0))
assigned-targets T h (loop k c t u) a n r =
    ap₂ ◌++◌ (assigned-targets T h t (k + 1) n.1 r.1) (assigned-targets T h u (k + 1 + size t) n.2 r.2)
    ∙ (sym (targets-more T h (k + 1) (size t) (size u) (size t + size u) (k + 1 + size t) refl refl)
    ∙ (targets-head T h k (size t + size u) (1 + size t + size u) _ (omega arith) r.0 ∙ ap (λ (x : ℕ). targets_from T h x (1 + size t + size u)) n.0))
assigned-targets T h (bundle k ss u) a n r =
    ap₂ ◌++◌ (targets-line T h (k + 1) ss r.1) (assigned-targets T h u (k + 1 + length ss) n.1 r.2)
    ∙ (sym (targets-more T h (k + 1) (length ss) (size u) (length ss + size u) (k + 1 + length ss) refl refl)
    ∙ (targets-head T h k (length ss + size u) (1 + length ss + size u) _ (omega arith) r.0
    ∙ ap (λ (x : ℕ). targets_from T h x (1 + length ss + size u)) n.0))
assigned-targets T h (call k c t) a n r =
    ap (λ (l : List ℕ). call_target c ++ l) (assigned-targets T h t (k + 1) n.1 r.1)
    ∙ (targets-head T h k (size t) (1 + size t) _ refl r.0 ∙ ap (λ (x : ℕ). targets_from T h x (1 + size t)) n.0)
assigned-targets T h (unread k) a n r = refl
