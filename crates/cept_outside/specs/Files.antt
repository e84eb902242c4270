-- Files in memory under their names. This project's own.
use Rattle.std.specs.Prelude.{ℕ, Bool, List, [], Option, slice_get, find, option_map, option_and_then, unwrap_or}
use Rattle.std.specs.Prelude.{string_bytes, bytes_eq}
use Rattle.cept_outside.specs.declared.rack.StoredFile.{StoredFile}

-- the file has this name
abbrev pub has_name : List ℕ → StoredFile → Bool
has_name name file = bytes_eq (string_bytes file.name) name

-- the bytes of the file with this name
abbrev pub bytes_of : List StoredFile → List ℕ → Option (List ℕ)
bytes_of files name = option_map (λ (file : StoredFile). file.bytes.items) (find (has_name name) files)

-- the file at the place that is chosen
abbrev pub chosen_file : List StoredFile → Option ℕ → Option StoredFile
chosen_file files place = option_and_then (slice_get files) place

-- its bytes, none where no file is chosen
abbrev pub chosen_bytes : List StoredFile → Option ℕ → List ℕ
chosen_bytes files place = unwrap_or (option_map (λ (file : StoredFile). file.bytes.items) (chosen_file files place)) []

-- its name, none where no file is chosen
abbrev pub chosen_name : List StoredFile → Option ℕ → Option (List ℕ)
chosen_name files place = option_map (λ (file : StoredFile). string_bytes file.name) (chosen_file files place)
