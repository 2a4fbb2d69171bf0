-- What files in memory give.
use Rattle.std.specs.Prelude.{◌&&◌, if◌then◌else◌, Bool, false, List, [], ◌∷◌, ℕ, Option, Some, None, codes, unwrap_or}
use Rattle.std.specs.List.{list_any}
use Rattle.std.specs.Str.{bytes_eq}
use Rattle.test_tools.specs.declared.files.GivenFile.{GivenFile}

-- the bytes of the first file of this name
abbrev pub bytes_of : List GivenFile → (name : List ℕ) → Option (List ℕ)
bytes_of [] name = None
bytes_of (file ∷ files) name = if bytes_eq file.name.now name then Some file.bytes.now else bytes_of files name

-- what is read by this name; without one from standard input, which is the file `-`. What isn't there has no bytes.
abbrev pub read_by : List GivenFile → (name : Option (List ℕ)) → List ℕ
read_by files name = unwrap_or (bytes_of files (unwrap_or name (codes "-"))) []

-- the input has this name: others are those of other files
abbrev pub is_named : (input : Option (List ℕ)) → (name : List ℕ) → Bool
is_named None name = false
is_named (Some input) name = bytes_eq input name

-- a regular file has this name
abbrev pub is_regular : List GivenFile → (name : List ℕ) → Bool
is_regular files name = list_any (λ file. file.is_regular && bytes_eq file.name.now name) files
