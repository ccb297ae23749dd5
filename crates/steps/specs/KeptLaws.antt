-- A step keeps the ends as long as they were, and small.
use Rattle.std.specs.Prelude.{ℕ, zero, suc, ◌+◌, ◌*◌, ◌%◌, ◌^◌, ◌<◌, ◌≤◌, ◌≡◌, refl, List, [], ◌∷◌, ℤ, length, get_or, set}
use Rattle.std.proofs.Common.{ap, arith}
use Rattle.words.specs.declared.sections.Sections.{Sections}
use Rattle.statements.specs.declared.Simple.{Simple}
use Rattle.statements.specs.declared.Simple.TheVariants.{Literal, AddConstant, Arithmetic, Null, Address}
use Rattle.statements.specs.declared.Simple.TheVariants.{PointerOffset, PointerIndex, Load, Store, Check, Declare}
use Rattle.statements.specs.declared.Statement.{Statement}
use Rattle.statements.specs.declared.Statement.TheVariants.{Plain, If, While, Bundle, Call}
use Rattle.statements.specs.Decode.{decoded_at}
use Rattle.blocks.specs.Flow.{Successors}
use Rattle.blocks.specs.Shape.{entries_at}
use Rattle.machine.specs.Machine.{Failing, none, fails, failing}
use Rattle.checks.specs.Checked.{declared_in, size_in, Named}
use Rattle.checks.specs.declared.Step.{Step}
use Rattle.steps.specs.Bare.{copied, ends_after, changed_unless, simple_move, statement_move, bare_move, Moves, Ready}
use Rattle.steps.specs.CopiedLaws.{copied-long, copied-outside}
use Rattle.steps.specs.ReadyLaws.{ready-declare}

-- The ends W' are as long as W, small where W is, and name slots where W does.
pub record EndsKept (W W' : List ℕ) : Type 0 where
  pub long : length W' ≡ length W
  pub small : ((i : ℕ) → get_or W i 0 < 2 ^ 34) → (i : ℕ) → get_or W' i 0 < 2 ^ 34
  pub named : Named W → Named W'

-- What holds of each number of a list holds after one is set of which it holds.
set-each : (P : ℕ → ℕ → Type 0) (l : List ℕ) (j v : ℕ) → P j v → ((i : ℕ) → P i (get_or l i 0)) → (i : ℕ) → P i (get_or (set l j v) i 0)
set-each P [] j v b f i = f i
set-each P (x ∷ l) zero v b f zero = b
set-each P (x ∷ l) zero v b f (suc i) = f (suc i)
set-each P (x ∷ l) (suc j) v b f zero = f zero
set-each P (x ∷ l) (suc j) v b f (suc i) = set-each (λ k. P (suc k)) l j v b (λ k. f (suc k)) i

copied-each : (P : ℕ → ℕ → Type 0) (n p r : ℕ) (W : List ℕ) → ((k v : ℕ) → P (96 + 6 * r + k) v → P (6 * p + k) v) → ((i : ℕ) → P i (get_or W i 0)) → (i : ℕ)
    → P i (get_or (copied n p r W) i 0)
unfolding copied
copied-each P zero p r W e f i = f i
copied-each P (suc n) p r W e f i =
    set-each P (copied n p r W) (6 * p + n) (get_or W (96 + 6 * r + n) 0) (e n _ (f (96 + 6 * r + n))) (copied-each P n p r W e f) i

same_kept : (W : List ℕ) → EndsKept W W
same_kept W = record { long = refl; small = λ f. f; named = λ f. f }

after_kept : (s : Simple) (W : List ℕ) → EndsKept W (ends_after s W)
unfolding ends_after
after_kept (Literal x k) W = same_kept W
after_kept (AddConstant x y k) W = same_kept W
after_kept (Arithmetic x y z op) W = same_kept W
after_kept (Null p) W = same_kept W
after_kept (Address p o) W = same_kept W
after_kept (PointerOffset p q k) W = same_kept W
after_kept (PointerIndex p q i) W = same_kept W
after_kept (Load x p i k) W = same_kept W
after_kept (Store p i k x) W = same_kept W
after_kept (Check c) W = same_kept W
after_kept (Declare p r) W =
    record {
      long = copied-long p r W 6;
      small = copied-each (λ i v. v < 2 ^ 34) 6 p r W (λ k v l. l);
      named = copied-each (λ i v. i % 3 < 2 → v ≤ 16) 6 p r W (λ k v l m. l (omega (arith, m)));
    }

unless-kept : (f : Failing) (W W' : List ℕ) → EndsKept W W' → EndsKept W (changed_unless f W W')
unfolding changed_unless
unless-kept none W W' k = k
unless-kept (fails n) W W' k = same_kept W

statement-kept : (W D : List ℕ) (s : Statement) (a : ℕ) (n : Successors) (vs cs : List ℕ) → EndsKept W (statement_move W D s a n vs cs).ends
unfolding statement_move simple_move
statement-kept W D (Plain s) a n vs cs = unless-kept (failing (declared_in W) vs s) W (ends_after s W) (after_kept s W)
statement-kept W D (If c x y) a n vs cs = same_kept W
statement-kept W D (While c x) a n vs cs = same_kept W
statement-kept W D (Bundle x) a n vs cs = same_kept W
statement-kept W D (Call x) a n vs cs = same_kept W

pub move-kept : (T : List ℤ) (h : Sections) (W D S : List ℕ) (a : ℕ) (vs cs : List ℕ) {r : Step} {W' ws ds : List ℕ}
    → Moves (bare_move T h W D S a vs cs) r W' ws ds → EndsKept W W'
unfolding bare_move
move-kept T h W D S a vs cs m = rw m.ends (statement-kept W D (decoded_at T h a) a (entries_at S a) vs cs)

-- ---- the element sizes stay: a kind 14 copies six numbers of a variable below 16

after-sizes : (s : Simple) (W : List ℕ) → ((p r : ℕ) → s ≡ Declare p r → p < 16) → (x : ℕ) → size_in (ends_after s W) x ≡ size_in W x
unfolding ends_after
after-sizes (Literal x k) W f n = refl
after-sizes (AddConstant x y k) W f n = refl
after-sizes (Arithmetic x y z op) W f n = refl
after-sizes (Null p) W f n = refl
after-sizes (Address p o) W f n = refl
after-sizes (PointerOffset p q k) W f n = refl
after-sizes (PointerIndex p q i) W f n = refl
after-sizes (Load x p i k) W f n = refl
after-sizes (Store p i k x) W f n = refl
after-sizes (Check c) W f n = refl
after-sizes (Declare p r) W f n = let l : p < 16 = f p r refl in copied-outside p r W 6 (480 + n) (λ j m e. omega arith)

unless-sizes : (f : Failing) (W W' : List ℕ) (x : ℕ) → size_in W' x ≡ size_in W x → size_in (changed_unless f W W') x ≡ size_in W x
unfolding changed_unless
unless-sizes none W W' x e = e
unless-sizes (fails n) W W' x e = refl

statement-sizes : (W D : List ℕ) (s : Statement) (a : ℕ) (n : Successors) (vs cs : List ℕ) → ((p r : ℕ) → s ≡ Plain (Declare p r) → p < 16) → (x : ℕ)
    → size_in (statement_move W D s a n vs cs).ends x ≡ size_in W x
unfolding statement_move simple_move
statement-sizes W D (Plain s) a n vs cs f x = unless-sizes (failing (declared_in W) vs s) W (ends_after s W) x (after-sizes s W (λ p r e. f p r (ap Plain e)) x)
statement-sizes W D (If c y z) a n vs cs f x = refl
statement-sizes W D (While c y) a n vs cs f x = refl
statement-sizes W D (Bundle y) a n vs cs f x = refl
statement-sizes W D (Call y) a n vs cs f x = refl

pub move-sizes : (T : List ℤ) (h : Sections) (W D S : List ℕ) (a : ℕ) (vs cs : List ℕ) {r : Step} {W' ws ds : List ℕ} → Ready T h W S a vs cs
    → Moves (bare_move T h W D S a vs cs) r W' ws ds
    → ((x : ℕ) → size_in W x ≤ 8) → (x : ℕ) → size_in W' x ≤ 8
unfolding bare_move
move-sizes T h W D S a vs cs y m f x =
    rw (m.ends, statement-sizes W D (decoded_at T h a) a (entries_at S a) vs cs (λ p r e. ready-declare T h W S a vs cs p r y e) x) (f x)
