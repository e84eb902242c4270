pub mod Laws
mod Onto
mod SaysLemmas
mod BackLemmas
mod PushLemmas
mod MoreLemmas
mod Worked
mod WorkedBytes
