-- The looks that are kept of a page (this project's own): the look at each place, and what it is for looks to be refreshed.
use Rattle.std.specs.Prelude.{◌≡◌, List}
use Rattle.cept_codes.specs.declared.look.Look.{Look}
use Rattle.cept_profile.specs.Edges.{Edges, edges_of_core}
use Rattle.cept_profile.specs.Look.{looks_of}
use Rattle.cept_profile.specs.State.{Core, Page}

-- the core with another page
abbrev pub core_on : Core → Page → Core
core_on k p = record k { page = p }

-- these are the edges of a core
abbrev pub AreEdges : Edges → Type 0
AreEdges edges = (k : Core) × (edges_of_core k ≡ edges)

-- the looks of a page with these edges: those of every core that has both
abbrev pub AreLooksOn : List (List Look) → Page → Edges → Type 0
AreLooksOn looks p edges = (k : Core) → edges_of_core k ≡ edges → looks ≡ looks_of (core_on k p)
