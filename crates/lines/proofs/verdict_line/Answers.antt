-- `lines::verdict_line` meets its contract.
use Rattle.answers.specs.declared.refusals.Refusal.{Refusal}
use Rattle.std.specs.Prelude.{Result}
use Rattle.std.proofs.Common.{◌∙◌, ap, arith, sym}
use Rattle.text.specs.Text.{bytes_of}
use Rattle.text.specs.TextLaws.{grown-both}
use Rattle.rules.specs.Verdict.{verdict_reads}
use Rattle.lines.specs.Lines.{accepted_word, line_of}
use Rattle.lines.proofs.verdict_line.Goals as goal

pub returns-in-Ok : goal.returns-in-Ok
unfolding bytes_of accepted_word line_of
returns-in-Ok c = record {
  text = (grown-both c.new.ensures c.push_all.ensures).text ∙ sym (ap (λ (w : Result (Unit {0}) Refusal). line_of (verdict_reads w)) c.in-Ok.is);
  fits = omega (arith, c.push_all.ensures.long, c.new.ensures.long);
}

pub returns-in-Err : goal.returns-in-Err
unfolding line_of
returns-in-Err c = record {
  text = c.refused_line.ensures.text ∙ sym (ap (λ (w : Result (Unit {0}) Refusal). line_of (verdict_reads w)) c.in-Err.is);
  fits = c.refused_line.ensures.fits;
}
