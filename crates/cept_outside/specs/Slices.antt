-- Files over slices under their names. This project's own.
use Rattle.std.specs.Prelude.{ℕ, Bool, List, [], Option, find, option_map, unwrap_or, bytes_eq}
use Rattle.cept_outside.specs.declared.slice_shelf.SliceFile.{SliceFile}

-- the file has this name
abbrev pub is_named : List ℕ → SliceFile → Bool
is_named name file = bytes_eq file.name.now name

-- the bytes of the first file with this name
abbrev pub bytes_in : List SliceFile → List ℕ → Option (List ℕ)
bytes_in files name = option_map (λ (file : SliceFile). file.bytes.now) (find (is_named name) files)

-- the bytes of the file that is chosen, none where none is
abbrev pub chosen_bytes_in : Option SliceFile → List ℕ
chosen_bytes_in chosen = unwrap_or (option_map (λ (file : SliceFile). file.bytes.now) chosen) []
