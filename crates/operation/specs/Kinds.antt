-- The kinds of operations: their numbers, how many operands each takes, and which codes each uses.
use Rattle.std.specs.Prelude.{ℕ, Bool, true, false, cond, ◌&&◌, List, ◌++◌, Some, None, Option, Ok, Err, Result, ◌==◌, nat_le, codes, decimal}
use Rattle.operation.specs.declared.kind.OperationKind.{OperationKind}
use Rattle.operation.specs.declared.kind.OperationKind.TheVariants.{Read, Ll, Sc, Snapshot, Kcss}
use Rattle.operation.specs.declared.kind.UnknownKind.{UnknownKind}

-- the number by which a run sheet names a kind: 1 to 5
abbrev pub kind_number : OperationKind → ℕ
kind_number Read = 1
kind_number Ll = 2
kind_number Sc = 3
kind_number Snapshot = 4
kind_number Kcss = 5

-- the kind that has this number; none where it is not 1 to 5
abbrev pub kind_of : ℕ → Option OperationKind
kind_of n = cond (n == 1) (Some Read)
    (cond (n == 2) (Some Ll)
    (cond (n == 3) (Some Sc)
    (cond (n == 4) (Some Snapshot)
    (cond (n == 5) (Some Kcss) None))))

-- the kind that was found for n, or n as an error where none was
abbrev pub kind_or_error : ℕ → Option OperationKind → Result OperationKind UnknownKind
kind_or_error n (Some kind) = Ok kind
kind_or_error n None = Err (record { number = n })

-- the kind that has this number, or the number as an error
abbrev pub known_kind : ℕ → Result OperationKind UnknownKind
known_kind n = kind_or_error n (kind_of n)

-- what is said of a number that no kind has
abbrev pub unknown_kind_line : UnknownKind → List ℕ
unknown_kind_line unknown = codes "no kind of operations has the number " ++ decimal unknown.number

-- READ, LL and SC name one location; SNAPSHOT and KCSS name 1 to 16
abbrev pub counted : OperationKind → ℕ → Bool
counted Read n = n == 1
counted Ll n = n == 1
counted Sc n = n == 1
counted Snapshot n = nat_le 1 n && nat_le n 16
counted Kcss n = nat_le 1 n && nat_le n 16

-- the kinds that are given a new value
abbrev pub takes_new : OperationKind → Bool
takes_new Read = false
takes_new Ll = false
takes_new Sc = true
takes_new Snapshot = false
takes_new Kcss = true

-- the kind that is given expected values
abbrev pub takes_expected : OperationKind → Bool
takes_expected Read = false
takes_expected Ll = false
takes_expected Sc = false
takes_expected Snapshot = false
takes_expected Kcss = true
