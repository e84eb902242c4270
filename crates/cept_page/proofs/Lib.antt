mod FlagsAnew
pub mod Laws
mod MarkedRows
mod NotedInOrder
mod NotedPages
mod PageParts
