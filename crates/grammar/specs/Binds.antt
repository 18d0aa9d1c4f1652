-- What `?` does.
use Rattle.std.specs.Prelude.{Ok, Err, Result}

-- a fault goes on as it is, and a value into what follows
abbrev pub bind : {A B E : Type 0} → Result A E → (A → Result B E) → Result B E
bind (Ok x) f = f x
bind (Err e) f = Err e
