-- What a run sheet says, with lists in the place of the code's vectors.
use Rattle.std.specs.Prelude.{ℕ, ◌<◌, List, map, vec_items}
use Rattle.std.specs.List.{AllByRecursion}
use Rattle.sheet_format.specs.declared.parts.Operand.{Operand}
use Rattle.sheet_format.specs.declared.parts.Action.{Action}
use Rattle.sheet_format.specs.declared.parts.Action.TheVariants.{Read, Ll, Sc, Snapshot, Kcss}
use Rattle.sheet_format.specs.declared.parts.Operation.{Operation}
use Rattle.sheet_format.specs.declared.parts.ScriptItem.{ScriptItem}
use Rattle.sheet_format.specs.declared.parts.Sheet.{Sheet}
use Rattle.sheet_format.specs.Bytes.{AllBelow}

-- what an operation is to do
pub data Act (V : Type 0) : Type 0 where
  read : ℕ → Act V
  ll : ℕ → Act V
  sc : ℕ → V → Act V
  snapshot : List ℕ → Act V
  kcss : V → List (Operand V) → Act V

-- an operation: its process, and what it is to do
pub record Op (V : Type 0) : Type 0 where
  pub process : ℕ
  pub act : Act V

-- the initial values, how many processes there are, the operations, and the schedule
pub record Parts (V : Type 0) : Type 0 where
  pub initial : List V
  pub processes : ℕ
  pub operations : List (Op V)
  pub script : List ScriptItem

-- what an operation of the code is to do, with lists for its vectors
abbrev pub act_of : {V : Type 0} → Action V → Act V
act_of (Read a) = read a
act_of (Ll a) = ll a
act_of (Sc a v) = sc a v
act_of (Snapshot locations) = snapshot (vec_items locations)
act_of (Kcss v operands) = kcss v (vec_items operands)

-- an operation of the code, with lists for its vectors
abbrev pub op_of : {V : Type 0} → Operation V → Op V
op_of o = record { process = o.process; act = act_of o.action }

-- what a sheet of the code says, with lists for its vectors
abbrev pub parts_of : {V : Type 0} → Sheet V → Parts V
parts_of s = record { initial = vec_items s.initial; processes = s.processes; operations = map op_of (vec_items s.operations); script = vec_items s.script }

-- A location fits two bytes. The code's types see to that; as numbers of these definitions locations have
-- no bound.
abbrev pub Operands : {V : Type 0} → List (Operand V) → Type 0
Operands = AllByRecursion (λ o. o.location < 65536)

-- each location that an operation names fits two bytes
abbrev pub Fitting : {V : Type 0} → Act V → Type 0
Fitting (read a) = a < 65536
Fitting (ll a) = a < 65536
Fitting (sc a v) = a < 65536
Fitting (snapshot locations) = AllBelow 65536 locations
Fitting (kcss v operands) = Operands operands

-- each location that any of these operations names fits two bytes
abbrev pub AllFitting : {V : Type 0} → List (Op V) → Type 0
AllFitting = AllByRecursion (λ o. Fitting o.act)
