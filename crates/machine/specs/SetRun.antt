-- An accepted set whose last routine is begun is in its setting, and the invariant of its run holds at the start.
use Rattle.std.specs.Prelude.{ℕ, ◌-◌, ◌*◌, ◌≤◌, ◌<◌, ◌≡◌, leb, ℤ, get_or}
use Rattle.std.proofs.Common.{sym, ap, ◌∙◌, arith}
use mathlib.Core.List.{List, []}
use borrow.Author.Tests.{leb-true}
use Rattle.std.proofs.Math.ListN.{length}
use Rattle.words.specs.SectionsLaws.{both}
use Rattle.table.specs.Form.{sections_of}
use Rattle.table.specs.FormLaws.{well-formed}
use Rattle.blocks.specs.Tree.{tree}
use Rattle.listed.specs.ListForm.{list_faults}
use Rattle.rules.specs.Calls.{Routine, routine_at}
use Rattle.rules.specs.EnvironmentLaws.{environment-declares}
use Rattle.rules.specs.Stored.{new_state, block_faults}
use Rattle.rules.specs.Sets.{member_of, routine_of, routines_of, before, count_right, AllAccepted}
use Rattle.rules.proofs.SetLaws.{length-routines, routine-at, member-formed, member-clear, all-formed, members-same}
use Rattle.machine.specs.Soundness.{Placed, Apart, Begun}
use Rattle.machine.specs.Good.{Setting}
use Rattle.machine.specs.EntrySound.{begun-good}
use Rattle.machine.specs.RunSound.{start-kept}
use Rattle.machine.specs.SetMachine.{start_stack}
use Rattle.machine.specs.SetSound.{SetSetting, StackInvariant}

-- "A run begins in the last routine".
abbrev pub last_routine : List Routine → Routine
last_routine rs = routine_at rs (length rs - 1)

module _ (Ts : List (List ℤ)) (accepted : AllAccepted Ts) (D cs vs os : List ℕ)
    (entered : Begun (last_routine (routines_of Ts)).sections (last_routine (routines_of Ts)).environment D cs vs os) where
  abbrev rs : List Routine
  rs = routines_of Ts

  abbrev room : ℕ
  room = length cs

  some : 1 ≤ length Ts
  unfolding count_right
  some = leb-true 1 (length Ts) (both (leb 1 (length Ts)) (leb (length Ts) 8) accepted.count).0

  abbrev last : ℕ
  last = length rs - 1

  last-below : last < length Ts
  last-below = omega (arith, length-routines Ts, some)

  within : (n : ℕ) → n < length rs → n < length Ts
  within n l = omega (arith, l, length-routines Ts)

  -- Any two routines have the same objects.
  record Shares (n m : ℕ) : Type 0 where
    count : (routine_at rs n).sections.objects ≡ (routine_at rs m).sections.objects
    terminated : (routine_at rs n).environment.terminated ≡ (routine_at rs m).environment.terminated
    lengths : (routine_at rs n).environment.lengths ≡ (routine_at rs m).environment.lengths

  shares : (n m : ℕ) → n < length Ts → m < length Ts → Shares n m
  shares n m l k =
      let p = members-same Ts accepted n l in
      let q = members-same Ts accepted m k in
      let e : routine_at rs n ≡ routine_of (member_of Ts n) = routine-at Ts n l in
      let f : routine_at rs m ≡ routine_of (member_of Ts m) = routine-at Ts m k in
      record {
        count = ap (λ (r : Routine). r.sections.objects) e ∙ (p.count ∙ (sym q.count ∙ sym (ap (λ (r : Routine). r.sections.objects) f)));
        terminated = ap (λ (r : Routine). r.environment.terminated) e
            ∙ (p.terminated ∙ (sym q.terminated ∙ sym (ap (λ (r : Routine). r.environment.terminated) f)));
        lengths = ap (λ (r : Routine). r.environment.lengths) e
            ∙ (p.lengths ∙ (sym q.lengths ∙ sym (ap (λ (r : Routine). r.environment.lengths) f)));
      }

  -- The directory is right for each routine, as it is for the last.
  module _ (n : ℕ) (l : n < length Ts) where
    r : Routine
    r = routine_at rs n

    own : Shares n last
    own = shares n last l last-below

    pairs : length D ≡ 2 * (routine_at rs n).sections.objects
    pairs = omega (arith, own.count, entered.pairs)

    placed : (o : ℕ) → o < (routine_at rs n).sections.objects → Placed (routine_at rs n).environment D room o
    placed o k =
        let p = entered.placed o (omega (arith, k, own.count)) in
        record { first = p.first; long = p.long ∙ ap (λ (x : List ℕ). get_or x o 0) (sym own.lengths); inside = p.inside }

    apart : Apart D (routine_at rs n).sections.objects
    apart = let e = own.count in rw e entered.apart

    -- The routine in its setting; it may call those before it.
    in-setting : Setting (routine_at rs n).table (routine_at rs n).sections (routine_at rs n).environment D room
        × (block_faults (routine_at rs n).environment [] (before n rs) (tree (routine_at rs n).table (routine_at rs n).sections) new_state ≡ [])
        × (list_faults (routine_at rs n).table (routine_at rs n).sections [] ≡ [])
    in-setting =
        let e : routine_at rs n ≡ routine_of (member_of Ts n) = routine-at Ts n l in
        let M = member_of Ts n in
        let c = member-clear Ts n (accepted.each n l) (all-formed Ts accepted) in
        let p = pairs in
        let q = placed in
        let a = apart in
        rw e (
          record {
            laid = c.laid;
            declares = environment-declares M (sections_of M) (well-formed M (sections_of M) (member-formed Ts n (accepted.each n l)));
            pairs = rw e at p;
            placed = rw e at q;
            apart = rw e at a;
            memory = entered.memory;
          },
          c.walked,
          c.listed,
        )

  pub set-setting : SetSetting rs D room []
  set-setting =
      record {
        setting = λ n l. (in-setting n (within n l)).0;
        walked = λ n l. (in-setting n (within n l)).1;
        listed = λ n l. (in-setting n (within n l)).2;
        formed = all-formed Ts accepted;
        objects = λ n m l k. (shares n m (within n l) (within m k)).count;
        terminated = λ n m l k. (shares n m (within n l) (within m k)).terminated;
      }

  pub start-invariant : StackInvariant rs D room [] (start_stack rs D cs vs os)
  unfolding start_stack
  start-invariant =
      let l : last < length rs = omega (arith, length-routines Ts, some) in
      let S = (in-setting last last-below).0 in
      record {
        known = l;
        running = start-kept (routine_at rs last).table (routine_at rs last).sections (routine_at rs last).environment D room [] S (before last rs)
            (in-setting last last-below).1 cs vs os
            (begun-good (routine_at rs last).table (routine_at rs last).sections (routine_at rs last).environment D cs vs os S.declares entered);
        waits = tt;
      }
