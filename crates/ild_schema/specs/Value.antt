-- The values of a schema's types (IPLD Schemas, "typed nodes"), whose parts stand by the schema: a struct's fields in
-- its order, a union's member and an enum's by number.
use Rattle.std.specs.Prelude.{ℕ, ◌+◌, max, ℤ, List, [], ◌∷◌, Bool, Option, Some, None}
use Rattle.ild_data.specs.Data.{Data}

mutual
  pub data Value : Type 0 where
    null : Value
    boolean : Bool → Value
    integer : ℤ → Value
    text : List ℕ → Value
    bytes : List ℕ → Value
    link : List ℕ → Value
    list : Values → Value
    map : Pairs → Value
    struct : Optionals → Value
    union : ℕ → Value → Value
    enum : ℕ → Value
    unit : Value
    any : Data → Value
    -- the root map of a HAMT, of whose entries nothing is said: what one block shows by itself
    hamt : Data → Value

  pub data Values : Type 0 where
    no_values : Values
    value : Value → Values → Values

  pub data Pairs : Type 0 where
    no_pairs : Pairs
    pair : List ℕ → Value → Pairs → Pairs

  -- a field may be left out
  pub data Optionals : Type 0 where
    no_optionals : Optionals
    absent : Optionals → Optionals
    present : Value → Optionals → Optionals

-- the elements of a list, from a plain list and as one
abbrev pub values_of : List Value → Values
values_of [] = no_values
values_of (v ∷ vs) = value v (values_of vs)

abbrev pub values_list : Values → List Value
values_list no_values = []
values_list (value v vs) = v ∷ values_list vs

-- the entries of a map, from a plain list of pairs and as one
abbrev pub pairs_of : List (List ℕ × Value) → Pairs
pairs_of [] = no_pairs
pairs_of (p ∷ ps) = pair p.0 p.1 (pairs_of ps)

abbrev pub pairs_list : Pairs → List (List ℕ × Value)
pairs_list no_pairs = []
pairs_list (pair k v ps) = (k, v) ∷ pairs_list ps

-- the fields of a struct, from a plain list of optional values and as one
abbrev pub optional : Option Value → Optionals → Optionals
optional None os = absent os
optional (Some v) os = present v os

abbrev pub optionals_of : List (Option Value) → Optionals
optionals_of [] = no_optionals
optionals_of (o ∷ os) = optional o (optionals_of os)

abbrev pub optionals_list : Optionals → List (Option Value)
optionals_list no_optionals = []
optionals_list (absent os) = None ∷ optionals_list os
optionals_list (present v os) = Some v ∷ optionals_list os

-- how deep values nest: 0 for a value without parts that are values
abbrev mutual
  pub height : Value → ℕ
  height (list vs) = values_height vs + 1
  height (map ps) = pairs_height ps + 1
  height (struct os) = optionals_height os + 1
  height (union n v) = height v + 1
  height v = 0

  pub values_height : Values → ℕ
  values_height no_values = 0
  values_height (value v vs) = max (height v) (values_height vs)

  pub pairs_height : Pairs → ℕ
  pairs_height no_pairs = 0
  pairs_height (pair k v ps) = max (height v) (pairs_height ps)

  pub optionals_height : Optionals → ℕ
  optionals_height no_optionals = 0
  optionals_height (absent os) = optionals_height os
  optionals_height (present v os) = max (height v) (optionals_height os)
