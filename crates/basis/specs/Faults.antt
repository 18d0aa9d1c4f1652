-- Refusals: what the rules say of each reason.
use Rattle.std.specs.Prelude.{ℕ, List, ◌++◌, Some, None, codes, decimal, unwrap_or}
use Rattle.basis.specs.declared.fault.Fault.{Fault}
use Rattle.basis.specs.declared.fault.Layer.{Layer}
use Rattle.basis.specs.declared.fault.Layer.TheVariants.{Bytes as InBytes, Sheet as InSheet, Plan as InPlan, Script as InScript, Run as InRun}
use Rattle.basis.specs.declared.fault.Reason.{Reason}
use Rattle.basis.specs.declared.fault.Reason.TheVariants.{Bytes, Contents, Body, Level, Task, LongCycle, Overfull, ShortMemory, Script, Other}

-- the number of a refusal
abbrev pub number_of : Reason → ℕ
number_of Bytes = 1
number_of Contents = 2
number_of Body = 3
number_of Level = 4
number_of Task = 5
number_of LongCycle = 6
number_of Overfull = 7
number_of ShortMemory = 8
number_of Script = 9
number_of (Other n l) = n

-- the layer that finds it
abbrev pub layer_of : Reason → Layer
layer_of Bytes = InBytes
layer_of Contents = InSheet
layer_of Body = InSheet
layer_of Level = InSheet
layer_of Task = InSheet
layer_of LongCycle = InPlan
layer_of Overfull = InPlan
layer_of ShortMemory = InPlan
layer_of Script = InScript
layer_of (Other n l) = l

-- a reason of the library's own: it has the one number and the one layer that the rules give it
abbrev pub IsOwn : Reason → Type 0
IsOwn (Other n l) = ⊥
IsOwn why = Unit {0}

-- the fault of a line that is refused for a reason
abbrev pub fault_at : Reason → ℕ → Fault
fault_at why at = record { reason = why; line = Some at }

-- a fault that names no line
abbrev pub fault_of : Reason → Fault
fault_of why = record { reason = why; line = None }

-- how a layer is called
abbrev pub layer_text : Layer → List ℕ
layer_text InBytes = codes "bytes"
layer_text InSheet = codes "sheet"
layer_text InPlan = codes "plan"
layer_text InScript = codes "script"
layer_text InRun = codes "run"

-- how a fault reads: `refused NUMBER LAYER line LINE`, with 0 for the line where it names none
abbrev pub fault_text : Fault → List ℕ
fault_text f =
    codes "refused " ++ (decimal (number_of f.reason) ++ (codes " " ++ (layer_text (layer_of f.reason) ++ (codes " line " ++ decimal (unwrap_or f.line 0)))))
