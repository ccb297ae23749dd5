-- Laws of the variables that a loop's body assigns and of the facts without them, as the code meets them.
use Rattle.std.specs.Prelude.{ℕ, zero, suc, ◌+◌, ◌-◌, ◌≤◌, ◌<◌, ◌≡◌, refl, Bool, true, false, ◌||◌, cond, List, [], ◌∷◌, ◌++◌, eqb, ℤ, length, get_or, set}
use Rattle.std.specs.Prelude.{Option, Some}
use Rattle.std.proofs.Common.{sym, ap, ◌∙◌, arith, sub-one, add-one, eqb-true, ne_eqb, length-set, get_or-set_same, get_or-set_other}
use Rattle.std.proofs.Math.Bool.{or_assoc, or-true, or-false}
use Rattle.std.proofs.lemmas.Bool.{eqb-false}
use Rattle.std.proofs.lemmas.List.{get_or-replicate}
use Rattle.sums.specs.Numbers.{zero_var}
use Rattle.facts.specs.Store.{dropped}
use Rattle.facts.specs.declared.FactSet.{FactSet}
use Rattle.words.specs.declared.sections.Sections.{Sections}
use Rattle.statements.specs.declared.Simple.{Simple}
use Rattle.statements.specs.declared.Simple.TheVariants.{Literal, AddConstant, Arithmetic, Null, Address}
use Rattle.statements.specs.declared.Simple.TheVariants.{PointerOffset, PointerIndex, Load, Store, Check, Declare}
use Rattle.statements.specs.declared.Statement.{Statement}
use Rattle.statements.specs.declared.Statement.TheVariants.{Plain, If, While, Bundle, Call}
use Rattle.statements.specs.Statements.{statement_at}
use Rattle.blocks.specs.Tree.{target}
use Rattle.rules.specs.FactRules.{among}
use Rattle.rules.specs.Stored.{dropped_each, loop_facts}
use Rattle.effects.specs.Marks.{target_of, targets_from, target_number, assigned_number, no_marks, marked}
use Rattle.rules.specs.FactRules as fact_rules

pub marked_append : (m : List Bool) (xs ys : List ℕ) → marked m (xs ++ ys) ≡ marked (marked m xs) ys
unfolding marked
marked_append m [] ys = refl
marked_append m (x ∷ xs) ys = marked_append (set m x true) xs ys

pub targets-none : (T : List ℤ) (h : Sections) (a n : ℕ) → n ≤ 0 → targets_from T h a n ≡ []
unfolding targets_from
targets-none T h a zero p = refl
targets-none T h a (suc n) p = absurd (omega arith)

pub targets-some : (T : List ℤ) (h : Sections) (a n : ℕ) → 0 < n → targets_from T h a n ≡ target_of (statement_at T h a) ++ targets_from T h (a + 1) (n - 1)
unfolding targets_from
targets-some T h a zero p = absurd (omega arith)
targets-some T h a (suc n) p = rw sub-one

-- One more statement marked.
pub mark-more : (T : List ℤ) (h : Sections) (a n : ℕ) (m : List Bool) {r : List Bool} {got : Option Statement} → 0 < n → got ≡ statement_at T h a
    → r ≡ marked m (target_of got)
    → marked m (targets_from T h a n) ≡ marked r (targets_from T h (a + 1) (n - 1))
mark-more T h a n m p g e =
    ap (marked m) (targets-some T h a n p) ∙ (marked_append m (target_of (statement_at T h a)) (targets_from T h (a + 1) (n - 1))
    ∙ ap (λ (l : List Bool). marked l (targets_from T h (a + 1) (n - 1))) (sym (e ∙ ap (λ (q : Option Statement). marked m (target_of q)) g)))

pub mark-none : (T : List ℤ) (h : Sections) (a n : ℕ) (m : List Bool) → n ≤ 0 → marked m (targets_from T h a n) ≡ m
unfolding marked
mark-none T h a n m p = ap (marked m) (targets-none T h a n p)

-- One target.
mark-one : (m : List Bool) (s : Simple) → target_number s < 16 → set m (target_number s) true ≡ marked m (target s)
unfolding marked
mark-one m (Literal x k) p = refl
mark-one m (AddConstant x y k) p = refl
mark-one m (Arithmetic x y z op) p = refl
mark-one m (Null q) p = refl
mark-one m (Address q o) p = refl
mark-one m (PointerOffset q r k) p = refl
mark-one m (PointerIndex q r i) p = refl
mark-one m (Load x q i k) p = refl
mark-one m (Store q i k x) p = absurd (omega arith)
mark-one m (Check c) p = absurd (omega arith)
mark-one m (Declare q r) p = absurd (omega arith)

set_past : (m : List Bool) (x : ℕ) → length m ≤ x → set m x true ≡ m
set_past [] zero p = refl
set_past [] (suc x) p = refl
set_past (b ∷ m) zero p = absurd (omega arith)
set_past (b ∷ m) (suc x) p = ap (λ (l : List Bool). b ∷ l) (set_past m x (omega arith))

mark-past : (m : List Bool) (s : Simple) → length m ≡ 16 → 16 ≤ target_number s → m ≡ marked m (target s)
unfolding marked
mark-past m (Literal x k) l p = sym (set_past m x (omega arith))
mark-past m (AddConstant x y k) l p = sym (set_past m x (omega arith))
mark-past m (Arithmetic x y z op) l p = sym (set_past m x (omega arith))
mark-past m (Null q) l p = sym (set_past m q (omega arith))
mark-past m (Address q o) l p = sym (set_past m q (omega arith))
mark-past m (PointerOffset q r k) l p = sym (set_past m q (omega arith))
mark-past m (PointerIndex q r i) l p = sym (set_past m q (omega arith))
mark-past m (Load x q i k) l p = sym (set_past m x (omega arith))
mark-past m (Store q i k x) l p = refl
mark-past m (Check c) l p = refl
mark-past m (Declare q r) l p = refl

-- The same of any statement.
mark-statement : (m : List Bool) (s : Statement) → assigned_number s < 16 → set m (assigned_number s) true ≡ marked m (target_of (Some s))
unfolding marked
mark-statement m (Plain s) p = mark-one m s p
mark-statement m (If c k l) p = absurd (omega arith)
mark-statement m (While c k) p = absurd (omega arith)
mark-statement m (Bundle k) p = absurd (omega arith)
mark-statement m (Call c) p = rw (ne_eqb c.result zero_var (λ e. omega arith))

past-statement : (m : List Bool) (s : Statement) → length m ≡ 16 → 16 ≤ assigned_number s → m ≡ marked m (target_of (Some s))
unfolding marked
past-statement m (Plain s) l p = mark-past m s l p
past-statement m (If c k n) l p = refl
past-statement m (While c k) l p = refl
past-statement m (Bundle k) l p = refl
past-statement m (Call c) l p = go (eqb c.result zero_var)
  where
    go : (b : Bool) → m ≡ marked m (cond b [] (c.result ∷ []))
    go true = refl
    go false = sym (set_past m c.result (omega arith))

-- What was read, marked.
module _ (m : List Bool) {r : Option Statement} {s : Statement} (e : r ≡ Some s) {t : ℕ} (g : t ≡ assigned_number s) where
  read_same : marked m (target_of (Some s)) ≡ marked m (target_of r)
  read_same = ap (λ (q : Option Statement). marked m (target_of q)) (sym e)

  pub read-target : t < 16 → set m t true ≡ marked m (target_of r)
  read-target h = ap (λ (n : ℕ). set m n true) g ∙ (mark-statement m s (omega arith) ∙ read_same)

  pub read_past : length m ≡ 16 → 16 ≤ t → m ≡ marked m (target_of r)
  read_past l h = past-statement m s l (omega arith) ∙ read_same

set-marks : (m : List Bool) (x v : ℕ) → v < length m → get_or (set m x true) v false ≡ (get_or m v false || eqb v x)
set-marks m x v p = go (eqb v x) refl
  where
    go : (b : Bool) → eqb v x ≡ b → get_or (set m x true) v false ≡ (get_or m v false || b)
    go true e = let q : v ≡ x = eqb-true v x e in rw (← q) (get_or-set_same m v true false p ∙ sym (or-true (get_or m v false)))
    go false e = get_or-set_other m x v true false (eqb-false v x e) ∙ sym (or-false (get_or m v false))

pub marked-among : (m : List Bool) (xs : List ℕ) (v : ℕ) → v < length m → get_or (marked m xs) v false ≡ (get_or m v false || among v xs)
unfolding marked among
marked-among m [] v p = sym (or-false (get_or m v false))
marked-among m (x ∷ xs) v p =
    marked-among (set m x true) xs v (omega (arith, length-set m x true))
    ∙ (ap (λ (b : Bool). b || among v xs) (set-marks m x v p) ∙ or_assoc (get_or m v false) (eqb v x) (among v xs))

-- Only the marks below the number matter.
pub dropped-alike : (n : ℕ) (a b : ℕ → Bool) (f : FactSet) → ((v : ℕ) → v < n → a v ≡ b v) → dropped_each n a f ≡ dropped_each n b f
unfolding fact_rules.dropped_each
dropped-alike zero a b f e = refl
dropped-alike (suc n) a b f e = rw (e n (omega arith), dropped-alike n a b f (λ v p. e v (omega arith)))

pub dropped-none : (lost : ℕ → Bool) (f : FactSet) → f ≡ dropped_each 0 lost f
unfolding fact_rules.dropped_each
dropped-none lost f = refl

dropped-more : (n : ℕ) (lost : ℕ → Bool) (f : FactSet) → dropped_each (n + 1) lost f ≡ cond (lost n) (dropped (dropped_each n lost f) n) (dropped_each n lost f)
unfolding fact_rules.dropped_each
dropped-more n lost f = rw add-one

module _ (n : ℕ) (lost : ℕ → Bool) (f : FactSet) {g : FactSet} (e : g ≡ dropped_each n lost f) where
  pub drop-marked : lost n ≡ true → {r h : FactSet} → r ≡ dropped g n → h ≡ r → h ≡ dropped_each (n + 1) lost f
  drop-marked t d q = q ∙ (d ∙ (ap (λ (i : FactSet). dropped i n) e
      ∙ sym (dropped-more n lost f ∙ ap (λ (b : Bool). cond b (dropped (dropped_each n lost f) n) (dropped_each n lost f)) t)))

  pub drop-unmarked : lost n ≡ false → {h : FactSet} → h ≡ g → h ≡ dropped_each (n + 1) lost f
  drop-unmarked t q = q ∙ (e ∙ sym (dropped-more n lost f ∙ ap (λ (b : Bool). cond b (dropped (dropped_each n lost f) n) (dropped_each n lost f)) t))

  pub drop-done : n ≡ 16 → g ≡ dropped_each 16 lost f
  drop-done q = e ∙ ap (λ (m : ℕ). dropped_each m lost f) q

pub loop-facts : (xs : List ℕ) (f : FactSet) (m : List Bool) → m ≡ marked no_marks xs → dropped_each 16 (λ v. get_or m v false) f ≡ loop_facts xs f
unfolding fact_rules.loop_facts
loop-facts xs f m e = dropped-alike 16 _ _ f
    (λ v p. ap (λ (l : List Bool). get_or l v false) e
    ∙ (marked-among no_marks xs v p ∙ ap (λ (b : Bool). b || among v xs) (get_or-replicate 16 v false false p)))
