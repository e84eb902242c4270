-- No breaker fits after a byte.
pub use Rattle.cept_parser.proofs.GrammarLemmas.{breaker_fails}
