-- Worked cases of looking back: services and settings, by computing.
use Rattle.std.proofs.Common.{◌≡◌, [], ◌∷◌, Some, None, false, true, refl}
use Rattle.cept_codes.specs.declared.command.C1Set.TheVariants.{Serial, Parallel}
use Rattle.cept_codes.specs.declared.command.Command.TheVariants.{Graphic, C1, DesignateC1, Table, StopConceal, Home}
use Rattle.cept_codes.specs.declared.command.Command.TheVariants.{Designate, AreaCreate, AreaDelete, Format, Position}
use Rattle.cept_codes.specs.declared.command.Command.TheVariants.{ServiceBreak, ServiceEnd, FullDefaults}
use Rattle.cept_codes.specs.declared.command.Command.TheVariants.{ControlDefaults, Revision}
use Rattle.cept_codes.specs.declared.glyph.SetId.TheVariants.{P, N}
use Rattle.cept_profile.specs.ControlSettings.{outer_history, c1_back, set_back, class_back, fore_in, back_in}
use Rattle.cept_profile.specs.ControlSettings.{conceal_in, rows_back, area_back, settings}

-- ---- services, in their order

pub closed_service_is_left_out : outer_history (C1 1 ∷ ServiceBreak 24 ∷ C1 2 ∷ ServiceEnd ∷ C1 3 ∷ [])
    ≡ C1 1 ∷ C1 3 ∷ []
closed_service_is_left_out = refl

-- the first of two breaks begins the service
pub second_break_begins_none : outer_history
    (C1 1 ∷ ServiceBreak 24 ∷ C1 2 ∷ ServiceBreak 24 ∷ C1 3 ∷ ServiceEnd ∷ []) ≡ C1 1 ∷ []
second_break_begins_none = refl

pub open_service_stays : outer_history (C1 1 ∷ ServiceBreak 24 ∷ C1 2 ∷ []) ≡ C1 1 ∷ ServiceBreak 24 ∷ C1 2 ∷ []
open_service_stays = refl

-- full defaults end a service without closing it, so that the end closes none
pub full_defaults_close_none : outer_history (ServiceBreak 24 ∷ FullDefaults Serial ∷ ServiceEnd ∷ []) ≡ ServiceBreak 24
    ∷ FullDefaults Serial ∷ ServiceEnd ∷ []
full_defaults_close_none = refl

pub two_services : outer_history (ServiceBreak 24 ∷ C1 1 ∷ ServiceEnd ∷ C1 2 ∷ ServiceBreak 24 ∷ ServiceEnd
    ∷ ServiceEnd ∷ [])
    ≡ C1 2 ∷ ServiceEnd ∷ []
two_services = refl

-- ---- settings, the newest command first

pub table_that_holds_there : class_back fore_in (Table 1 ∷ C1 3 ∷ Table 2 ∷ []) ≡ Some 19
table_that_holds_there = refl

pub serial_code_sets_no_pen : class_back fore_in (C1 3 ∷ DesignateC1 Serial ∷ C1 4 ∷ []) ≡ Some 4
serial_code_sets_no_pen = refl

pub break_makes_parallel : c1_back (ServiceBreak 24 ∷ DesignateC1 Serial ∷ []) ≡ Parallel
break_makes_parallel = refl

pub background_is_taken_away : class_back back_in (C1 30 ∷ C1 21 ∷ []) ≡ None
background_is_taken_away = refl

pub concealing_stops : class_back conceal_in (StopConceal ∷ C1 24 ∷ []) ≡ Some false
concealing_stops = refl

pub defaults_designate : set_back 1 (ControlDefaults Parallel ∷ Designate 1 N ∷ []) ≡ set_back 1 []
defaults_designate = refl

pub last_designation : set_back 1 (Designate 2 P ∷ Designate 1 N ∷ Designate 1 P ∷ []) ≡ N
last_designation = refl

pub rows_of_the_format : rows_back (ServiceBreak 24 ∷ Format 20 false ∷ []) ≡ 20
rows_of_the_format = refl

pub area_deleted_by_its_rows : area_back (AreaDelete 2 9 ∷ AreaCreate 2 9 ∷ AreaCreate 3 4 ∷ []) ≡ None
area_deleted_by_its_rows = refl

pub area_outlives_other_rows : area_back (AreaDelete 3 4 ∷ AreaCreate 2 9 ∷ AreaCreate 3 4 ∷ []) ≡ Some (2, 9)
area_outlives_other_rows = refl

-- ---- in their order

pub table_counts_from_there : (settings (C1 3 ∷ Table 1 ∷ C1 19 ∷ Table 2 ∷ [])).fore ≡ Some 3
table_counts_from_there = refl

pub table_of_the_background : (settings (C1 3 ∷ Table 1 ∷ C1 19 ∷ Table 2 ∷ [])).back ≡ Some 11
table_of_the_background = refl

pub last_table : (settings (C1 3 ∷ Table 1 ∷ C1 19 ∷ Table 2 ∷ [])).table ≡ 2
last_table = refl

-- neither going home nor a position brings the table back
pub table_stays_at_home : (settings (Table 1 ∷ Home ∷ Position 2 2 ∷ C1 1 ∷ [])).fore ≡ Some 9
table_stays_at_home = refl

-- ---- services

-- what a service sets of the pen is gone with it, and what it sets of the format stays
pub fore_before_the_service : (settings (C1 1 ∷ ServiceBreak 24 ∷ C1 2 ∷ ServiceEnd ∷ [])).fore ≡ Some 1
fore_before_the_service = refl

pub fore_of_the_service : (settings (C1 1 ∷ ServiceBreak 24 ∷ C1 2 ∷ [])).fore ≡ Some 2
fore_of_the_service = refl

pub fore_before_two_breaks : (settings (C1 1 ∷ ServiceBreak 24 ∷ C1 2 ∷ ServiceBreak 1 ∷ ServiceEnd ∷ [])).fore ≡ Some 1
fore_before_two_breaks = refl

pub rows_of_the_service : (settings (ServiceBreak 24 ∷ Format 20 false ∷ ServiceEnd ∷ [])).rows ≡ 20
rows_of_the_service = refl

-- so does the revision, which only full defaults take back
pub revision_of_the_service : (settings (ServiceBreak 24 ∷ Revision 2 ∷ ServiceEnd ∷ [])).revision ≡ 2
revision_of_the_service = refl

pub revision_outlives : (settings (Revision 2 ∷ ControlDefaults Serial ∷ Format 20 true ∷ ServiceBreak 24 ∷ [])).revision ≡ 2
revision_outlives = refl

pub revision_of_the_start : (settings (Revision 2 ∷ FullDefaults Serial ∷ Home ∷ [])).revision ≡ (settings []).revision
revision_of_the_start = refl

pub first_revision : (settings (Revision 2 ∷ Revision 1 ∷ Home ∷ [])).revision ≡ 1
first_revision = refl

pub home_unsets : (settings (C1 2 ∷ Graphic 0x41 ∷ Home ∷ [])).fore ≡ None
home_unsets = refl
