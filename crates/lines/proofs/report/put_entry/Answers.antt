-- `lines::report::put_entry` meets its contract.
use Rattle.std.proofs.Common.{rules}
use Rattle.text.specs.Text.{bytes_of}
use Rattle.text.specs.TextLaws.{grown-both}
use Rattle.lines.specs.ReportLaws.{entry_done, entry-spent, entry-stopped, entry-refused}
use Rattle.lines.proofs.report.put_entry.Goals as goal

pub returns-in-Done : goal.returns-in-Done
unfolding bytes_of
returns-in-Done c = (entry_done _ c.in-Done.is c.put.ensures.0, search rules)

pub returns-in-Spent : goal.returns-in-Spent
unfolding bytes_of
returns-in-Spent c = (entry-spent _ c.in-Spent.is (grown-both c.put-start.ensures.0 c.put-in-Spent.ensures.0), search rules)

pub returns-in-Stopped : goal.returns-in-Stopped
returns-in-Stopped c = (entry-stopped _ c.in-Stopped.is c.put_check.ensures.0, search rules)

pub returns-in-Refused : goal.returns-in-Refused
returns-in-Refused c = (entry-refused _ c.in-Refused.is c.put_refusal.ensures.0, search rules)
