use Rattle.std.proofs.Common.{arith, length, ap, ◌≡◌, ◌<◌, ◌∷◌}
use Rattle.cept_words.specs.Words.{words_after}
use Rattle.cept_words.proofs.CountedWords.{some_word}
use Rattle.cept_words.proofs.words.one_word.Goals as goal

pub returns-in-Some-clause-words : goal.returns-in-Some-clause-words
returns-in-Some-clause-words c e =
    let h : length (words_after c.args.rest) ≡ length (c.in_ok-word.word.now ∷ words_after c.in_ok-word.more) =
    ap length c.in_ok-word.ensures.words in
    let more : 0 < length (words_after c.in_ok-word.more) = rw c.in-Some.is (some_word c.in-Some.field-0.now) in
    omega (arith, e, h, more)
