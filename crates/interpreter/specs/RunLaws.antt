-- Laws of the run without origins: one for each way through a turn of the code's loop.
use Prim.Native.Nat.{ℕ, zero, suc, ◌+◌, ◌<◌, ◌≤◌, ◌^◌}
use Rattle.std.specs.Prelude.{◌≡◌, List, ℤ, length, get_or}
use Rattle.std.proofs.Math.Path.{refl}
use Rattle.std.proofs.Common.{sym, ◌∙◌, arith}
use Rattle.std.proofs.Math.Numerals.{add-one}
use borrow.Author.Tests.{lt-ltb, le-ltb}
use Rattle.words.specs.declared.sections.Sections.{Sections}
use Rattle.checks.specs.Checked.{size_in, Named}
use Rattle.steps.specs.Bare.{bare_move, Ready, Prepared, Moves}
use Rattle.interpreter.specs.BareRun.{BareResult, follow, bare_run, Onward, SafeRun, Ends}
use Rattle.answers.specs.declared.stops.Check.{Check}
use Rattle.checks.specs.declared.Step.{Step}
use Rattle.checks.specs.declared.Step.TheVariants.{Go, Stop, Call}
use Rattle.answers.specs.declared.stops.Outcome.{Outcome}
use Rattle.answers.specs.declared.stops.Outcome.TheVariants.{Done, Spent, Stopped}

-- A run that is the same as another ends as that does.
pub carry : {o p : BareResult} {r : Outcome} {W vs cs : List ℕ} → o ≡ p → Ends p r W vs cs → Ends o r W vs cs
carry e m = rw e m

-- Buffers of the same length serve as well.
pub still-prepared : {T : List ℤ} {h : Sections} {W D S vs : List ℕ} (W' ws : List ℕ) → length W' ≡ length W → ((i : ℕ) → get_or W' i 0 < 2 ^ 34)
    → ((x : ℕ) → size_in W' x ≤ 8) → Named W' → length ws ≡ length vs
    → Prepared T h W D S vs → Prepared T h W' D S ws
still-prepared W' ws l b s n e p =
    record {
      table = p.table;
      ends = l ∙ p.ends;
      small = b;
      sizes = s;
      named = n;
      directory = p.directory;
      successors = p.successors;
      slots = omega (arith, p.slots);
    }

module _ (T : List ℤ) (h : Sections) (W D S : List ℕ) where
  abbrev run : ℕ → ℕ → ℕ → List ℕ → List ℕ → BareResult
  run l n a vs cs = bare_run T h W D S l n a vs cs

  abbrev Safe : ℕ → ℕ → List ℕ → List ℕ → Type 0
  Safe l a vs cs = SafeRun T h W D S l a vs cs

  pub run-done : (l n a : ℕ) (vs cs : List ℕ) → h.statements ≤ a → Ends (run l n a vs cs) (Done n) W vs cs
  unfolding bare_run
  run-done zero n a vs cs p = rw (le-ltb a h.statements p) (record { outcome = refl; ends = refl; values = refl; cells = refl })
  run-done (suc l) n a vs cs p = rw (le-ltb a h.statements p) (record { outcome = refl; ends = refl; values = refl; cells = refl })

  module _ (l n a : ℕ) (vs cs : List ℕ) (within : a < h.statements) where
    pub run-spent : l ≡ 0 → Ends (run l n a vs cs) (Spent n a) W vs cs
    unfolding bare_run
    run-spent e = rw (e, lt-ltb a h.statements within) (record { outcome = refl; ends = refl; values = refl; cells = refl })

    module _ (m : ℕ) (some : l ≡ m + 1) where
      run-some : run l n a vs cs
          ≡ follow (bare_move T h W D S a vs cs).said
          (λ b. bare_run T h (bare_move T h W D S a vs cs).ends D S m (n + 1) b (bare_move T h W D S a vs cs).values (bare_move T h W D S a vs cs).cells)
          n a (bare_move T h W D S a vs cs).ends (bare_move T h W D S a vs cs).values (bare_move T h W D S a vs cs).cells
      unfolding bare_run
      run-some = rw (some, add-one m, lt-ltb a h.statements within)

      safe-some : Safe l a vs cs →
          Ready T h W S a vs cs × Onward (bare_move T h W D S a vs cs).said
          (λ b. SafeRun T h (bare_move T h W D S a vs cs).ends D S m b (bare_move T h W D S a vs cs).values (bare_move T h W D S a vs cs).cells)
      unfolding SafeRun
      safe-some s = rw (some, add-one m, lt-ltb a h.statements within) at s

      pub safe-ready : Safe l a vs cs → Ready T h W S a vs cs
      safe-ready s = (safe-some s).0

      module _ (r : Step) (W' ws ds : List ℕ) (q : Moves (bare_move T h W D S a vs cs) r W' ws ds) where
        pub run-go : (b : ℕ) → r ≡ Go b → run l n a vs cs ≡ bare_run T h W' D S m (n + 1) b ws ds
        run-go b e = run-some ∙ rw (sym q.said ∙ e, q.ends, q.values, q.cells)

        pub safe-go : (b : ℕ) → r ≡ Go b → Safe l a vs cs → SafeRun T h W' D S m b ws ds
        safe-go b e s = rw (q.ends, q.values, q.cells) (rw (sym q.said ∙ e) at (safe-some s).1)

        pub run-stop : (c : Check) → r ≡ Stop c → Ends (run l n a vs cs) (Stopped (n + 1) c) W' ws ds
        run-stop c e = carry (run-some ∙ rw (sym q.said ∙ e)) (record { outcome = refl; ends = q.ends; values = q.values; cells = q.cells })

        pub run_call : r ≡ Call → Ends (run l n a vs cs) (Spent n a) W' ws ds
        run_call e = carry (run-some ∙ rw (sym q.said ∙ e)) (record { outcome = refl; ends = q.ends; values = q.values; cells = q.cells })
