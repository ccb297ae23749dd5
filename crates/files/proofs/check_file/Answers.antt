-- `files::check_file` meets its contract.
use Rattle.std.proofs.lemmas.Result.{err_from_is_err_and}
use native.Mathlib.Omega.{arith}
use lib.ListN.{length-take}
use mathlib.Core.Path.{refl}
use Rattle.files.specs.FileLaws.{odd_refused, long-refused, file-answered}
use Rattle.files.proofs.check_file.Goals as goal

pub returns-then-size-ne0 : goal.returns-then-size-ne0
returns-then-size-ne0 c = odd_refused _ c.if-size-ne0.true

pub returns-then-size-gt-MAX_WORDS : goal.returns-then-size-gt-MAX_WORDS
returns-then-size-gt-MAX_WORDS c = long-refused _ c.if-size-ne0.false c.if-size-gt-MAX_WORDS.true

pub slice_bounds-table-end : goal.slice_bounds-table-end
slice_bounds-table-end c = omega (arith, c.read_words-count.ensures.filled.within, c.read_words-count.ensures.filled.long)

pub slice_bounds-check-end : goal.slice_bounds-check-end
slice_bounds-check-end c = simp length-take (omega (arith, c.read_words-count.ensures.filled.within, c.read_words-count.ensures.filled.long))

pub returns-in_err-check : goal.returns-in_err-check
returns-in_err-check c = let p = err_from_is_err_and c.from_residual.result c.from_residual.ensures.1 in
    rw (p.1, p.2) (file-answered _ _ c.if-size-ne0.false
    c.if-size-gt-MAX_WORDS.false c.read_words-count.ensures refl (rw c.in_err-check.was at c.check.ensures.0))

pub returns : goal.returns
returns c = file-answered _ _ c.if-size-ne0.false
    c.if-size-gt-MAX_WORDS.false c.read_words-count.ensures refl (rw c.in_ok-check.was at c.check.ensures.0)
