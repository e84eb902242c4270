mod RowTiled
mod ValidRow
