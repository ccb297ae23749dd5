-- The words of a table (document 01, "The routine table").
use Rattle.std.specs.Prelude.{ℕ, ◌+◌, ◌-◌, List, get_or, ℤ, pos, negsuc}
use Rattle.sums.specs.Numbers.{bias}
use Rattle.words.specs.declared.Fields.{Fields}

-- "Signed 32-bit words": a word as the natural number that is `bias` more.
unfoldable pub biased : ℤ → ℕ
biased (pos n) = n + bias
biased (negsuc n) = bias - (n + 1)

-- The word at an index; past the table's end the word 0.
unfoldable pub word : List ℤ → ℕ → ℕ
word table i = biased (get_or table i (pos 0))

-- "Statements: 7 words each": the seven words from an index on.
unfoldable pub fields_at : List ℤ → ℕ → Fields
fields_at table i =
    record {
      kind = word table i;
      first = word table (i + 1);
      second = word table (i + 2);
      third = word table (i + 3);
      fourth = word table (i + 4);
      fifth = word table (i + 5);
      sixth = word table (i + 6);
    }
