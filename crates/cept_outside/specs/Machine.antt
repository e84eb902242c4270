-- Files of the machine as they are read. This project's own.
use Rattle.std.specs.Prelude.{ℕ, List, [], Option, Some, None}

-- the bytes that reads will give from here on, where the file tells them; none where no file is open
abbrev pub bytes_ahead : {F : Type 0} → (F → Option (List ℕ)) → Option F → Option (List ℕ)
bytes_ahead remaining None = Some []
bytes_ahead remaining (Some file) = remaining file
