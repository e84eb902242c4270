-- What private clauses say beside `Decoding` (this project's own).
use Rattle.std.specs.Prelude.{ℕ, ◌+◌, ◌*◌, ◌-◌, length}
use Rattle.std.specs.Prelude.{if◌then◌else◌}
use Rattle.cept_editor.specs.declared.decoding.Decoding.{Decoding}

-- how much is left to do
abbrev pub decoding_size : Decoding → ℕ
decoding_size d = 4 * length d.digits.now + (length d.items.items - d.handed) + (if d.ended then 0 else 4)
