-- What a handle owns (this project's own).
use Rattle.std.specs.Prelude.{Bool, true, false}
use Rattle.std.specs.Box.Ownership.{box_owns}
use Rattle.std.specs.contracts.impls.GlobalAllocator.TheImpl.{ghosts}
use Rattle.std.specs.declared.alloc.Global.{Global}
use base.Fml.{Fml, ftrue}
use denote.RawPtr.{Ptr}
use Rattle.cept_live.specs.contracts.live.Live.{the_row}
use Rattle.cept_live.specs.declared.live.Live.{Live}

-- the heap of the C library: there is one
abbrev pub the_heap : Global
the_heap = record { memory = record { seal = tt } }

-- a state in a block of its own, and the right to free the block, where it is held
abbrev pub held_owns : Bool → Ptr → Live → Fml
held_owns true at value = box_owns (ghosts.dealloc_token the_heap) the_row at value
held_owns false at value = ftrue
