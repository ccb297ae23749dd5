-- The loop of a level of the interpreter of a set: for whatever callers wait beneath it.
use Rattle.std.specs.Prelude.{ℕ, ◌+◌, ◌-◌, ◌*◌, ◌≤◌, ◌<◌, ◌≡◌, refl, List, ◌∷◌, ◌++◌, ℤ, length, get_or, set, take, drop}
use Rattle.std.proofs.Common.{sym, ap, ap₂, subst, ◌∙◌, arith, length-append, length-take, length-drop, drop_at}
use Rattle.std.proofs.Math.ListN.{get_or-append}
use Rattle.arrays.specs.TabulateLaws.{length-tabulate}
use Rattle.words.specs.Sections.{statement_start}
use Rattle.rules.specs.Calls.{argument}
use Rattle.statements.specs.declared.CallSite.{CallSite}
use Rattle.rules.specs.BoundsRules.{own_rows}
use Rattle.rules.specs.Verdict as verdict
use Rattle.machine.specs.Machine.{Point, value}
use Rattle.machine.specs.SetMachine.{Frame, waiting, begun, stack}
use Rattle.answers.specs.declared.stops.Outcome.{Outcome}
use Rattle.entry.specs.Ends.{ends_of}
use Rattle.interpreter.specs.EndsLaws.{ends-long}
use Rattle.parts.specs.Parts.{Replaced}
use Rattle.set_runs.specs.Lent.{read_in, sections_in, room_of, called_values, pause_of}
use Rattle.set_runs.specs.Levels.{Begins, Callable, MayRun, RanOn, MayCall, LevelLeaves, Along}
use Rattle.set_runs.specs.Levels as levels
use Rattle.set_runs.specs.RoutineLaws.{few, ends-are, may-run, Paused, paused, paused-later, level-leaves, AtCall, at_call}
use Rattle.set_runs.specs.CallLaws.{site_at, count_at, callee-below, callee_known, count-some, count-few, statement-few, call-inside, begins-there, may-call}
use Rattle.set_runs.specs.CallLaws.{halts-there, goes-on-here, returns-later}
use Rattle.set_runs.specs.declared.SetOutcome.{SetOutcome}
use Rattle.set_runs.specs.declared.Level.{Level}
use Rattle.set_runs.specs.declared.Level.TheVariants.{Returns, Halts}
use Rattle.set_runs.specs.declared.levels.Pause.{Pause}
use Rattle.set_runs.specs.declared.levels.Pause.TheVariants as pause

module _ (W : List ℤ) (L D S : List ℕ) (n limit made : ℕ) (ends₀ vs₀ cs₀ : List ℕ) where
  abbrev BeginsHere : List Frame → Point → Type 0
  BeginsHere gs P = Begins (levels.set W L D S) D (length cs₀) gs n P made vs₀ cs₀

  -- What holds before each stretch.
  pub record Looping (at steps : ℕ) (ends vs cs : List ℕ) : Type 0 where
    pub asks : MayCall W L D S n limit made ends₀ vs₀ cs₀
    pub along : (gs : List Frame) (P : Point) → BeginsHere gs P → Along W L D S n (length cs₀) limit gs P at steps ends vs cs
    pub ends-long : length ends ≡ length ends₀
    pub values-long : length vs ≡ length vs₀
    pub cells-long : length cs ≡ length cs₀

  -- What holds where a call is due after it, of which o is the outcome.
  pub record Calling (o : Outcome) (steps s a : ℕ) (ends vs cs : List ℕ) : Type 0 where
    pub asks : MayCall W L D S n limit made ends₀ vs₀ cs₀
    pub stops : (gs : List Frame) (P : Point) → BeginsHere gs P → Paused asks.callable n asks.known limit gs P o ends vs cs
    pub pauses : pause_of limit n o ≡ pause.Calls s a
    pub later : steps ≤ s
    pub ends-long : length ends ≡ length ends₀
    pub values-long : length vs ≡ length vs₀
    pub cells-long : length cs ≡ length cs₀

  module _ {at steps : ℕ} {ends vs cs : List ℕ} (p : Looping at steps ends vs cs) where
    witness : Along W L D S n (length cs₀) limit p.asks.called.callers p.asks.called.point at steps ends vs cs
    witness = p.along _ _ p.asks.called.begins

    pub steps-within : steps ≤ limit
    steps-within = witness.within

    pub loop-asks : MayRun W L D S n limit at steps ends vs cs
    loop-asks = may-run p.asks.callable n p.asks.known witness (omega (arith, p.asks.room, p.ends-long))

    module _ {o : Outcome} {z : Pause} {ends' vs' cs' : List ℕ} (r : RanOn W L D S n limit at steps ends vs cs o ends' vs' cs')
        (e : z ≡ pause_of limit n o) where
      stops-now : (gs : List Frame) (P : Point) → BeginsHere gs P → Paused p.asks.callable n p.asks.known limit gs P o ends' vs' cs'
      stops-now gs P b = paused p.asks.callable n p.asks.known (p.along gs P b) r

      -- The level ends.
      pub leaves-now : {level : Level} → z ≡ pause.Leaves level → LevelLeaves W L D S n limit made vs₀ cs₀ level vs' cs'
      leaves-now {level} f gs P b = level-leaves p.asks.callable n p.asks.known (stops-now gs P b) level (sym e ∙ f)

      -- A call is due.
      pub calls-now : {s a : ℕ} → z ≡ pause.Calls s a → length vs' ≡ length vs → length cs' ≡ length cs → Calling o steps s a ends' vs' cs'
      calls-now {s} {a} f lv lc =
          let q = paused p.asks.callable n p.asks.known witness r in
          let x = at_call p.asks.callable n p.asks.known q (sym e ∙ f) in
          record {
            asks = p.asks;
            stops = stops-now;
            pauses = sym e ∙ f;
            later = omega (arith, x.steps, paused-later p.asks.callable n p.asks.known witness r);
            ends-long = r.kept.long ∙ p.ends-long;
            values-long = lv ∙ p.values-long;
            cells-long = lc ∙ p.cells-long;
          }

  module _ {o : Outcome} {steps s a : ℕ} {ends vs cs : List ℕ} (p : Calling o steps s a ends vs cs) where
    abbrev site : CallSite
    site = site_at p.asks.callable n p.asks.known a

    abbrev count : ℕ
    count = count_at p.asks.callable n p.asks.known a

    here : (gs : List Frame) (P : Point) (b : BeginsHere gs P) → AtCall p.asks.callable n p.asks.known (p.stops gs P b) s a
    here gs P b = at_call p.asks.callable n p.asks.known (p.stops gs P b) p.pauses

    abbrev first : BeginsHere p.asks.called.callers p.asks.called.point
    first = p.asks.called.begins

    pub number-few : n < 8
    number-few = few p.asks.callable n p.asks.known

    pub call-within : statement_start (sections_in W L n) a + 7 ≤ length (read_in W L n)
    call-within = call-inside p.asks.callable n p.asks.known (p.stops _ _ first) (here _ _ first)

    pub statement-within : a < 1024
    statement-within = statement-few p.asks.callable n p.asks.known (p.stops _ _ first) (here _ _ first)

    pub below : site.callee < n
    below = callee-below p.asks.callable n p.asks.known (p.stops _ _ first) (here _ _ first)

    pub some : 1 ≤ count
    some = count-some p.asks.callable n p.asks.known (p.stops _ _ first) (here _ _ first)

    pub at_most : count ≤ 16
    at_most = count-few p.asks.callable n p.asks.known (p.stops _ _ first) (here _ _ first)

    pub steps-left : s < limit
    steps-left = (here _ _ first).left

    -- What the callee's level asks,
    pub callee-asks : {ends' : List ℕ} → 512 * site.callee + 512 ≤ length ends'
        → MayCall W L D S site.callee limit (s + 1) ends' (take count (called_values vs site)) cs
    callee-asks fits = may-call p.asks.callable n p.asks.known (p.stops _ _ first) (here _ _ first) fits

    module _ {us ds : List ℕ} where
      -- and what it leaves: the run has ended,
      pub halts-now : {w : SetOutcome} → LevelLeaves W L D S site.callee limit (s + 1) (take count (called_values vs site)) cs (Halts w) us ds
          → LevelLeaves W L D S n limit made vs₀ cs₀ (Halts w) vs ds
      halts-now f gs P b =
          let q = p.stops gs P b in
          let x = here gs P b in
          halts-there p.asks.callable n p.asks.known q x (f _ _ (begins-there p.asks.callable n p.asks.known q x))

      module _ {w : ℕ} (f : LevelLeaves W L D S site.callee limit (s + 1) (take count (called_values vs site)) cs (Returns w) us ds) where
        pub more-made : steps < w
        more-made =
            let q = p.stops _ _ first in
            let x = here _ _ first in
            omega (arith, p.later, returns-later p.asks.callable n p.asks.known q x (f _ _ (begins-there p.asks.callable n p.asks.known q x)))

        pub not_more : w ≤ limit
        not_more =
            let q = p.stops _ _ first in
            let x = here _ _ first in
            (f _ _ (begins-there p.asks.callable n p.asks.known q x)).within

        -- or the routine goes on.
        pub loops-on : {at' : ℕ} {ends' vs' : List ℕ} (called' : List ℕ) → get_or called' (count - 1) 0 ≡ get_or us (count - 1) 0 → room_of ends' n
            ≡ room_of ends n
            → at' ≡ get_or S (2048 * n + 2 * a) 0 → vs' ≡ set vs site.result (get_or called' (count - 1) 0) → length ends' ≡ length ends → length vs'
            ≡ length vs
            → length ds ≡ length cs → Looping at' w ends' vs' ds
        loops-on called' last kept due given le lv lc = record {
          asks = p.asks;
          along = λ gs P b.
              let q = p.stops gs P b in
              let x = here gs P b in
              goes-on-here p.asks.callable n p.asks.known q x called'
              (f _ _ (begins-there p.asks.callable n p.asks.known q x)) last kept due given;
          ends-long = le ∙ p.ends-long;
          values-long = lv ∙ p.values-long;
          cells-long = lc ∙ p.cells-long;
        }

    -- ---- the part of the ends that is lent to the callee

    pub taken-room : length (take (512 * n) ends) ≡ 512 * n
    taken-room = length-take (512 * n) ends ∙ omega (arith, p.asks.room, p.ends-long)

    pub ends-back : (lent : List ℕ) → length lent ≡ length (take (512 * n) ends) → length (lent ++ drop (512 * n) ends) ≡ length ends₀
    ends-back lent e =
        length-append lent (drop (512 * n) ends) ∙ omega (arith, e, taken-room, length-drop (512 * n) ends, p.asks.room, p.ends-long)

    -- ---- in the words of the code, which has the call, the number of the callee's variables, and their values

    module _ (c : CallSite) (m : ℕ) (called : List ℕ) (e : c ≡ site) (g : m ≡ (sections_in W L c.callee).variables) (f : called ≡ called_values vs c) where
      pub code_below : c.callee < n
      code_below = rw e below

      pub code-some : (1 ≤ m) × (m ≤ 16)
      code-some = rw (g, e) (some, at_most)

      pub code-long : m ≤ length called
      code-long = rw f (omega (arith, code-some, length-tabulate 16 (λ (j : ℕ). value vs (argument c j))))

      pub code-taken : length (take m called) ≡ m
      code-taken = length-take m called ∙ omega (arith, code-long)

      pub code-asks : MayCall W L D S c.callee limit (s + 1) (take (512 * n) ends) (take m called) cs
      code-asks = rw (f, g, e) (callee-asks (omega (arith, taken-room, below)))

      module _ (r : Level) (us ds : List ℕ) (l : LevelLeaves W L D S c.callee limit (s + 1) (take m called) cs r us ds) where
        pub code-halts : {w : SetOutcome} → r ≡ Halts w → LevelLeaves W L D S n limit made vs₀ cs₀ r vs ds
        code-halts d = rw d (halts-now (rw (f, g, e, d) at l))

        pub code-more : {w : ℕ} → r ≡ Returns w → steps < w
        code-more d = more-made (rw (f, g, e, d) at l)

        pub code-loops : {w at' : ℕ} (lent : List ℕ) {vs' : List ℕ} → r ≡ Returns w → length us ≡ length (take m called)
            → length lent ≡ length (take (512 * n) ends) → at' ≡ get_or S (2048 * n + 2 * a) 0
            → vs' ≡ set vs c.result (get_or (us ++ drop m called) (m - 1) 0) → length vs' ≡ length vs → length ds ≡ length cs
            → Looping at' w (lent ++ drop (512 * n) ends) vs' ds
        code-loops {w} {at'} lent {vs'} d lu lb due given lv lc =
            let last : get_or (us ++ drop m called) (m - 1) 0 ≡ get_or us (m - 1) 0 =
            get_or-append us (drop m called) 0 (m - 1) (omega (arith, lu, code-taken, code-some)) in
            let q : m ≡ count = g ∙ ap (λ (k : CallSite). (sections_in W L k.callee).variables) e in
            let long : length (lent ++ drop (512 * n) ends) ≡ length ends = ends-back lent lb ∙ sym p.ends-long in
            let set_here : vs' ≡ set vs site.result (get_or (us ++ drop m called) (count - 1) 0) =
            given ∙ ap₂ (λ (k : CallSite) (i : ℕ). set vs k.result (get_or (us ++ drop m called) (i - 1) 0)) e q in
            loops-on (rw (f, g, e, d) at l) (us ++ drop m called)
            (subst (λ (i : ℕ). get_or (us ++ drop m called) (i - 1) 0 ≡ get_or us (i - 1) 0) q last)
            (ap (take 512) (drop_at lent (drop (512 * n) ends) (512 * n) (lb ∙ taken-room))) due set_here long lv lc

-- The level begins: its ends are laid out.
pub loop-starts : (W : List ℤ) (L D S : List ℕ) (n limit made : ℕ) {ends₀ vs cs ends : List ℕ} → MayCall W L D S n limit made ends₀ vs cs
    → Replaced (512 * n) (512 * n + 512) ends₀ (ends_of (verdict.environment_of (read_in W L n) (sections_in W L n)) own_rows) ends
    → Looping W L D S n limit made ends vs cs 0 made ends vs cs
loop-starts W L D S n limit made {ends₀} {vs} {cs} {ends} m r = record {
  asks = record { callable = m.callable; known = m.known; room = omega (arith, m.room, r.long); within = m.within; called = m.called };
  along = λ gs P b.
      let E = verdict.environment_of (read_in W L n) (sections_in W L n) in
      let l : length (ends_of E own_rows) ≡ 512 = ends-long E own_rows in
      let here : room_of ends n ≡ ends_of E own_rows = rw l at r.here in
      record {
        point = P;
        stands = b.stands;
        due = b.due;
        counted = b.steps;
        values = b.values;
        cells = b.cells;
        in-force = here ∙ (ends-are m.callable n m.known own_rows ∙ ap (ends_of _) (sym b.rows));
        grows = omega (arith, b.steps);
        within = m.within;
        ahead = refl;
      };
  ends-long = refl;
  values-long = refl;
  cells-long = refl;
}
