mod ExchangedStates
mod ExchangedValues
mod KeptDelta
pub mod Laws
mod NoneNoted
mod NotedInTurn
mod NotedValues
mod PutBack
mod UnnotedRows
mod UnwoundPages
mod WorkedExchange
