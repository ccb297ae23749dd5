-- The paper's number and place of each refusal (document 01, "Causes of refusal").
use Rattle.std.specs.Prelude.{ℕ}
use Rattle.answers.specs.declared.refusals.Refusal.{Refusal}
use Rattle.answers.specs.declared.refusals.Refusal.TheVariants.{Length, Directory, ObjectLength, VariableRecord}
use Rattle.answers.specs.declared.refusals.Refusal.TheVariants.{StatementRecord, BlockLayout, BoundsNotShown}
use Rattle.answers.specs.declared.refusals.Refusal.TheVariants.{BundleAccess, MemorySize, DirectoryPair, EntryLengths, EntryValue, RowsDiffer}
use Rattle.answers.specs.declared.refusals.Refusal.TheVariants.{LastCell, LoopFact, EditPosition}
use Rattle.answers.specs.declared.refusals.Refusal.TheVariants.{RoutineCount, Callee, Arguments}

-- "Causes of refusal", the column "No." Point 11: "Refusal 7 no longer occurs."
abbrev pub number : Refusal → ℕ
number Length = 1
number Directory = 2
number (ObjectLength o) = 3
number (VariableRecord v) = 4
number (StatementRecord s) = 5
number (BlockLayout s) = 6
number (BoundsNotShown s p) = 8
number (BundleAccess s) = 9
number MemorySize = 10
number (DirectoryPair i) = 10
number EntryLengths = 11
number (EntryValue v) = 12
-- Point 2: "It refuses with 13, at the if or while"
number (RowsDiffer s) = 13
-- Point 7: "It refuses with 16, after 12, when such a last cell is not 0 at entry, giving the lowest such object."
number (LastCell o) = 16
-- Point 9: "It refuses with 17, giving the first such entry"
number (LoopFact e) = 17
-- Point 13: "It refuses with 18, giving the position"
number (EditPosition a) = 18
-- Point 14: "A set of another size is 15, place 0". "It refuses with 19 unless the callee's number is 0 or more and below the caller's, and with 20 when an
-- argument .. is not shown in its bounds, or a parameter's bounds or the last variable break this rule. Both give the statement".
number RoutineCount = 15
number (Callee s) = 19
number (Arguments s) = 20

-- The column "Returned": object, variable, statement, pair, entry, or 0.
abbrev pub place : Refusal → ℕ
place Length = 0
place Directory = 0
place (ObjectLength o) = o
place (VariableRecord v) = v
place (StatementRecord s) = s
place (BlockLayout s) = s
place (BoundsNotShown s p) = s
place (BundleAccess s) = s
place MemorySize = 0
place (DirectoryPair i) = i
place EntryLengths = 0
place (EntryValue v) = v
place (RowsDiffer s) = s
place (LastCell o) = o
place (LoopFact e) = e
place (EditPosition a) = a
place RoutineCount = 0
place (Callee s) = s
place (Arguments s) = s

-- Refusal 8 also returns a pointer (point 6: "the lowest-numbered one not shown"); the others return none, for which 0 stands.
abbrev pub pointer : Refusal → ℕ
pointer Length = 0
pointer Directory = 0
pointer (ObjectLength o) = 0
pointer (VariableRecord v) = 0
pointer (StatementRecord s) = 0
pointer (BlockLayout s) = 0
pointer (BoundsNotShown s p) = p
pointer (BundleAccess s) = 0
pointer MemorySize = 0
pointer (DirectoryPair i) = 0
pointer EntryLengths = 0
pointer (EntryValue v) = 0
pointer (RowsDiffer s) = 0
pointer (LastCell o) = 0
pointer (LoopFact e) = 0
pointer (EditPosition a) = 0
pointer RoutineCount = 0
pointer (Callee s) = 0
pointer (Arguments s) = 0
