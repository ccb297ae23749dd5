use Rattle.words.specs.Sections.{kind_is}
use Rattle.words.proofs.sections.kind_is.Goals as goal

pub returns-in_default : goal.returns-in_default
unfolding kind_is
returns-in_default c = simp c.in_default.is

pub returns-in-Integer : goal.returns-in-Integer
unfolding kind_is
returns-in-Integer c = simp (c.in-Some.is, c.in-Integer.is)

pub returns-in-Array : goal.returns-in-Array
unfolding kind_is
returns-in-Array c = simp (c.in-Some.is, c.in-Array.is)

pub returns-in-String : goal.returns-in-String
unfolding kind_is
returns-in-String c = simp (c.in-Some.is, c.in-String.is)
