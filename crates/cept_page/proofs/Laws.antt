-- The laws of this crate in proofs above it: each is a clause of a public function of src/law.rt, and nothing else of
-- these proofs is seen outside.
pub use Rattle.cept_page.proofs.PageParts.{page_after-none, page_after-one, page_after-put}
pub use Rattle.cept_page.proofs.NotedInOrder.{noted-none, noted-one}
