-- Worked cases: the bytes of snapshots, by computing.
use Rattle.std.proofs.Common.{◌≡◌, [], ◌∷◌, ◌++◌, refl, replicate}
use Rattle.cept_parser.specs.declared.context.ColourKind.TheVariants as kinds
use Rattle.cept_parser.specs.declared.context.Mode.TheVariants as modes
use Rattle.cept_redraw.specs.Marks.{no_marks}
use Rattle.cept_live.specs.Live.{live_start}
use Rattle.cept_live.specs.Snapshots.{context_bytes, number_bytes, part, snapshot_head}

-- before the first byte: nothing pending, control in 34 bytes, no phase and no place renewed
start_is_told : snapshot_head live_start
    ≡ (0x54 ∷ 0x53 ∷ 0x4E ∷ 0x31 ∷ []) ++ (0 ∷ 0 ∷ 0 ∷ 0 ∷ 0 ∷ 0 ∷ 0 ∷ 0 ∷ [])
    ++ (0 ∷ 0 ∷ 0 ∷ 12 ∷ 10 ∷ 1 ∷ []) ++ (0 ∷ [])
    ++ (34 ∷ 1 ∷ 1 ∷ 1 ∷ 0 ∷ 2 ∷ 1 ∷ 3 ∷ 0 ∷ 2 ∷ 0 ∷ 0 ∷ 255 ∷ 0 ∷ 0 ∷ [])
    ++ (255 ∷ 255 ∷ 255 ∷ 255 ∷ 255 ∷ 255 ∷ 255 ∷ 255 ∷ 0 ∷ 0 ∷ 1 ∷ 0 ∷ 0 ∷ [])
    ++ (24 ∷ 1 ∷ 0 ∷ 0 ∷ 0 ∷ 1 ∷ 0 ∷ []) ++ (255 ∷ replicate 960 0)
unfolding no_marks snapshot_head
start_is_told = refl

lowest_byte_is_first : number_bytes 0x0102030405060708 ≡ 8 ∷ 7 ∷ 6 ∷ 5 ∷ 4 ∷ 3 ∷ 2 ∷ 1 ∷ []
lowest_byte_is_first = refl

greatest_number_is_told : number_bytes 0xFFFF_FFFF_FFFF_FFFF ≡ replicate 8 255
greatest_number_is_told = refl

pending_bytes_are_counted : part (0x1B ∷ 0x22 ∷ []) ≡ 2 ∷ 0x1B ∷ 0x22 ∷ []
pending_bytes_are_counted = refl

-- ---- contexts

patterns_are_3 : context_bytes (record {
  mode = modes.DrcsRun 0x41;
  kind = kinds.LookUpTable;
  form = record { w = 6; h = 5; planes = 2 };
}) ≡ 3 ∷ 0x41 ∷ 1 ∷ 6 ∷ 5 ∷ 2 ∷ []
patterns_are_3 = refl

table_is_1 : context_bytes (record {
  mode = modes.TableRun 32;
  kind = kinds.ColourTable;
  form = record { w = 12; h = 12; planes = 4 };
}) ≡ 1 ∷ 32 ∷ 0 ∷ 12 ∷ 12 ∷ 4 ∷ []
table_is_1 = refl

dclut_is_2 : context_bytes (record {
  mode = modes.DclutRun 4;
  kind = kinds.LookUpTable;
  form = record { w = 12; h = 10; planes = 1 };
}) ≡ 2 ∷ 4 ∷ 1 ∷ 12 ∷ 10 ∷ 1 ∷ []
dclut_is_2 = refl

skipping_is_4 : context_bytes (record {
  mode = modes.Skip;
  kind = kinds.ColourTable;
  form = record { w = 12; h = 10; planes = 1 };
}) ≡ 4 ∷ 0 ∷ 0 ∷ 12 ∷ 10 ∷ 1 ∷ []
skipping_is_4 = refl
