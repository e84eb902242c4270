use Rattle.cept_scroll.proofs.RowsInOrder.{IsTable-rows, row_read, row_written, rows_in_order-first}
use Rattle.cept_scroll.proofs.RowsInOrder.{rows_in_order-turned}
use Rattle.cept_scroll.proofs.law.rows_stand_in_slots.Goals as goal

pub returns-clause-first : goal.returns-clause-first
returns-clause-first g c = rows_in_order-first

pub returns-clause-table : goal.returns-clause-table
returns-clause-table g c = λ order kept rows are view. IsTable-rows are view

pub returns-clause-read : goal.returns-clause-read
returns-clause-read g c = λ order kept rows are view. row_read are view

pub returns-clause-written : goal.returns-clause-written
returns-clause-written g c = λ order kept rows are view. row_written are view

pub returns-clause-turned : goal.returns-clause-turned
returns-clause-turned g c = λ order kept rows view. rows_in_order-turned order kept view
