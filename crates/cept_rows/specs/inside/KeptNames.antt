-- What private clauses say beside `KeptNames` (this project's own).
use Rattle.cept_profile.specs.Names.{Names}
use Rattle.cept_rows.specs.declared.naming.PlaceNames.{PlaceNames}
use Rattle.cept_rows.specs.KeptNames.{code_kept}

-- the names of one place
abbrev pub names_of_place : PlaceNames → Names
names_of_place p = record { fore = p.fore; back = p.back; code = code_kept p.code }
