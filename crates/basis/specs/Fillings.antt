-- What a filling list holds. Other crates do not see its fields and speak of it by these words.
use Rattle.std.specs.Prelude.{ℕ, List, take, drop}
use Rattle.basis.specs.declared.filling.Filling.{Filling}

module _ {T : Type 0} where
  -- its entries, the first first
  abbrev pub entries_of : Filling T → List T
  entries_of f = take f.len f.memory.now

  -- what the free places past them hold
  abbrev pub free_of : Filling T → List T
  free_of f = drop f.len f.memory.now

  -- all of the memory that it fills
  abbrev pub memory_of : Filling T → List T
  memory_of f = f.memory.now

  -- whose memory it is: a caller that lent it knows it again by this
  abbrev pub lent_of : Filling T → ℕ
  lent_of f = f.memory.ghost_name
