-- Values as a tree of numbers, by which a proof tells two of them apart.
use Rattle.std.specs.Prelude.{◌≡◌, refl, ℕ}
use Rattle.std.specs.Coded.{Coded, coded_ℕ, coded_ℤ, coded_bool}
use Rattle.std.proofs.Common.{ap}
use Rattle.std.proofs.Math.Dec.{eqb}
use Rattle.std.proofs.lemmas.Bool.{true≢false}
use base.Stored.{Gv, gnil, gnum, gcons}
use Rattle.ild_data.specs.DataCode.{head, tail, bytes_code, data_code, data_inj}
use Rattle.ild_schema.specs.Value.{Value, null, boolean, integer, text, bytes, link, list, map, struct, union, enum, unit, any, hamt, Values, no_values, value, Pairs, no_pairs, pair, Optionals, no_optionals, absent, present}

-- the number with which a tree begins
abbrev mark : Gv → ℕ
mark gnil = 0
mark (gnum n) = n
mark (gcons a b) = mark a

abbrev mutual
  pub value_gv : Value → Gv
  value_gv null = gcons (gnum 0) gnil
  value_gv (boolean b) = gcons (gnum 1) (coded_bool.code b)
  value_gv (integer n) = gcons (gnum 2) (coded_ℤ.code n)
  value_gv (text s) = gcons (gnum 3) (bytes_code.code s)
  value_gv (bytes s) = gcons (gnum 4) (bytes_code.code s)
  value_gv (link s) = gcons (gnum 5) (bytes_code.code s)
  value_gv (list vs) = gcons (gnum 6) (values_gv vs)
  value_gv (map ps) = gcons (gnum 7) (pairs_gv ps)
  value_gv (struct os) = gcons (gnum 8) (optionals_gv os)
  value_gv (union n v) = gcons (gnum 9) (gcons (coded_ℕ.code n) (value_gv v))
  value_gv (enum n) = gcons (gnum 10) (coded_ℕ.code n)
  value_gv unit = gcons (gnum 11) gnil
  value_gv (any d) = gcons (gnum 12) (data_code d)
  value_gv (hamt d) = gcons (gnum 13) (data_code d)

  pub values_gv : Values → Gv
  values_gv no_values = gnil
  values_gv (value v vs) = gcons (value_gv v) (values_gv vs)

  pub pairs_gv : Pairs → Gv
  pairs_gv no_pairs = gnil
  pairs_gv (pair k v ps) = gcons (bytes_code.code k) (gcons (value_gv v) (pairs_gv ps))

  pub optionals_gv : Optionals → Gv
  optionals_gv no_optionals = gnil
  optionals_gv (absent os) = gcons (gnum 0) (optionals_gv os)
  optionals_gv (present v os) = gcons (gnum 1) (gcons (value_gv v) (optionals_gv os))

mutual
  pub value_inj : (x y : Value) → value_gv x ≡ value_gv y → x ≡ y
  value_inj null null p = refl
  value_inj (boolean a) (boolean b) p = ap boolean (coded_bool.inj a b (ap tail p))
  value_inj (integer a) (integer b) p = ap integer (coded_ℤ.inj a b (ap tail p))
  value_inj (text a) (text b) p = ap text (bytes_code.inj a b (ap tail p))
  value_inj (bytes a) (bytes b) p = ap bytes (bytes_code.inj a b (ap tail p))
  value_inj (link a) (link b) p = ap link (bytes_code.inj a b (ap tail p))
  value_inj (list a) (list b) p = ap list (values_inj a b (ap tail p))
  value_inj (map a) (map b) p = ap map (pairs_inj a b (ap tail p))
  value_inj (struct a) (struct b) p = ap struct (optionals_inj a b (ap tail p))
  value_inj (union m v) (union n w) p =
      λ i. union (coded_ℕ.inj m n (ap (λ g. head (tail g)) p) i) (value_inj v w (ap (λ g. tail (tail g)) p) i)
  value_inj (enum a) (enum b) p = ap enum (coded_ℕ.inj a b (ap tail p))
  value_inj unit unit p = refl
  value_inj (any a) (any b) p = ap any (data_inj a b (ap tail p))
  value_inj (hamt a) (hamt b) p = ap hamt (data_inj a b (ap tail p))
  value_inj x y p = absurd (true≢false (ap (λ g. eqb (mark (value_gv x)) (mark g)) p))

  pub values_inj : (x y : Values) → values_gv x ≡ values_gv y → x ≡ y
  values_inj no_values no_values p = refl
  values_inj (value v vs) (value w ws) p = λ i. value (value_inj v w (ap head p) i) (values_inj vs ws (ap tail p) i)
  values_inj x y p = absurd cc

  pub pairs_inj : (x y : Pairs) → pairs_gv x ≡ pairs_gv y → x ≡ y
  pairs_inj no_pairs no_pairs p = refl
  pairs_inj (pair k v ps) (pair l w qs) p =
      λ i. pair (bytes_code.inj k l (ap head p) i) (value_inj v w (ap (λ g. head (tail g)) p) i) (pairs_inj ps qs (ap (λ g. tail (tail g)) p) i)
  pairs_inj x y p = absurd cc

  pub optionals_inj : (x y : Optionals) → optionals_gv x ≡ optionals_gv y → x ≡ y
  optionals_inj no_optionals no_optionals p = refl
  optionals_inj (absent os) (absent ps) p = ap absent (optionals_inj os ps (ap tail p))
  optionals_inj (present v os) (present w ps) p =
      λ i. present (value_inj v w (ap (λ g. head (tail g)) p) i) (optionals_inj os ps (ap (λ g. tail (tail g)) p) i)
  optionals_inj x y p = absurd cc

abbrev pub value_code : Coded Value
value_code = record { code = value_gv; inj = value_inj }

abbrev pub values_code : Coded Values
values_code = record { code = values_gv; inj = values_inj }

abbrev pub pairs_code : Coded Pairs
pairs_code = record { code = pairs_gv; inj = pairs_inj }

abbrev pub optionals_code : Coded Optionals
optionals_code = record { code = optionals_gv; inj = optionals_inj }
