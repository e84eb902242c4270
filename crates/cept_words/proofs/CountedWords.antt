-- A line has a word.
use Rattle.std.proofs.Common.{ℕ, ◌<◌, ◌==◌, length, List, arith}
use Rattle.std.proofs.lemmas.List.Splits.{length-slice_split}
use Rattle.cept_words.specs.Lines.{words}

pub some_word : (bytes : List ℕ) → 0 < length (words bytes)
some_word bytes = omega (arith, length-slice_split (λ a. a == 0x20) bytes)
