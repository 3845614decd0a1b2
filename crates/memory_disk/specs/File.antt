-- What a file in memory holds.
use Rattle.std.specs.Prelude.{ℕ, List}
use Rattle.memory_disk.specs.declared.file.MemoryFile.{MemoryFile}

-- its bytes, which are what a read returns
abbrev pub file_bytes : MemoryFile → List ℕ
file_bytes file = file.bytes.items
