use Rattle.rules.specs.Sets.{object_words, with_objects}
use Rattle.sets.specs.Member.{Copied}
use Rattle.sets.proofs.member.put_objects.Given as goal

abbrev pub invariant-loop-i : goal.invariant-loop-i
invariant-loop-i l = Copied (with_objects (object_words l.first) l.table) l.initial.member l.i l.member
