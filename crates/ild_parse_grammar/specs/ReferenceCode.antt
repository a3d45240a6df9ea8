-- References as a tree of numbers, by which a proof tells two of them apart.
use Rattle.std.specs.Prelude.{◌≡◌, ℕ, List}
use Rattle.std.specs.Coded.{Coded, coded_ℕ, coded_bool, coded_list}
use Rattle.std.proofs.Common.{ap}
use base.Stored.{Gv, gnil, gnum, gcons}
use Rattle.ild_parse_grammar.specs.declared.ast.TypeName.{TypeName}
use Rattle.ild_parse_grammar.specs.Reference.{Reference, refer, Refers, named, link, list, map}

abbrev pub head : Gv → Gv
head gnil = gnil
head (gnum n) = gnil
head (gcons a b) = a

abbrev pub tail : Gv → Gv
tail gnil = gnil
tail (gnum n) = gnil
tail (gcons a b) = b

abbrev pub bytes_code : Coded (List ℕ)
bytes_code = coded_list coded_ℕ

abbrev pub name_gv : TypeName → Gv
name_gv n = gcons (coded_ℕ.code n.at) (bytes_code.code n.name)

pub name_inj : (x y : TypeName) → name_gv x ≡ name_gv y → x ≡ y
name_inj x y p = λ i. record { at = coded_ℕ.inj x.at y.at (ap head p) i; name = bytes_code.inj x.name y.name (ap tail p) i }

abbrev mutual
  pub reference_gv : Reference → Gv
  reference_gv (refer at nullable type_at r) = gcons (coded_ℕ.code at) (gcons (coded_bool.code nullable) (gcons (coded_ℕ.code type_at) (refers_gv r)))

  pub refers_gv : Refers → Gv
  refers_gv (named n) = gcons (gnum 0) (name_gv n)
  refers_gv (link n) = gcons (gnum 1) (name_gv n)
  refers_gv (list r) = gcons (gnum 2) (reference_gv r)
  refers_gv (map n r) = gcons (gnum 3) (gcons (name_gv n) (reference_gv r))

mutual
  pub reference_inj : (x y : Reference) → reference_gv x ≡ reference_gv y → x ≡ y
  reference_inj (refer a n t r) (refer b m u s) p =
      λ i. refer (coded_ℕ.inj a b (ap head p) i) (coded_bool.inj n m (ap (λ g. head (tail g)) p) i) (coded_ℕ.inj t u (ap (λ g. head (tail (tail g))) p) i) (refers_inj r s (ap (λ g. tail (tail (tail g))) p) i)

  pub refers_inj : (x y : Refers) → refers_gv x ≡ refers_gv y → x ≡ y
  refers_inj (named a) (named b) p = ap named (name_inj a b (ap tail p))
  refers_inj (link a) (link b) p = ap link (name_inj a b (ap tail p))
  refers_inj (list r) (list s) p = ap list (reference_inj r s (ap tail p))
  refers_inj (map a r) (map b s) p = λ i. map (name_inj a b (ap (λ g. head (tail g)) p) i) (reference_inj r s (ap (λ g. tail (tail g)) p) i)
  refers_inj x y p = absurd cc

abbrev pub reference_code : Coded Reference
reference_code = record { code = reference_gv; inj = reference_inj }
