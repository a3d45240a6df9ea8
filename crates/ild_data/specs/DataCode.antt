-- Data as a tree of numbers, by which a proof tells two of them apart.
use Rattle.std.specs.Prelude.{◌≡◌, ℕ, List, refl}
use Rattle.std.specs.Coded.{Coded, coded_ℕ, coded_ℤ, coded_bool, coded_list}
use Rattle.std.proofs.Common.{ap}
use base.Stored.{Gv, gnil, gnum, gcons}
use Rattle.ild_data.specs.Data.{Data, null, boolean, integer, text, bytes, list, map, link, Items, no_items, item, Members, no_members, member}

abbrev pub head : Gv → Gv
head gnil = gnil
head (gnum n) = gnil
head (gcons a b) = a

abbrev pub tail : Gv → Gv
tail gnil = gnil
tail (gnum n) = gnil
tail (gcons a b) = b

abbrev pub bytes_code : Coded (List ℕ)
bytes_code = coded_list coded_ℕ

abbrev mutual
  pub data_code : Data → Gv
  data_code null = gcons (gnum 0) gnil
  data_code (boolean b) = gcons (gnum 1) (coded_bool.code b)
  data_code (integer n) = gcons (gnum 2) (coded_ℤ.code n)
  data_code (text s) = gcons (gnum 3) (bytes_code.code s)
  data_code (bytes s) = gcons (gnum 4) (bytes_code.code s)
  data_code (list ds) = gcons (gnum 5) (items_gv ds)
  data_code (map ms) = gcons (gnum 6) (members_gv ms)
  data_code (link s) = gcons (gnum 7) (bytes_code.code s)

  pub items_gv : Items → Gv
  items_gv no_items = gnil
  items_gv (item d ds) = gcons (data_code d) (items_gv ds)

  pub members_gv : Members → Gv
  members_gv no_members = gnil
  members_gv (member k d ms) = gcons (bytes_code.code k) (gcons (data_code d) (members_gv ms))

mutual
  pub data_inj : (x y : Data) → data_code x ≡ data_code y → x ≡ y
  data_inj null null p = refl
  data_inj (boolean a) (boolean b) p = ap boolean (coded_bool.inj a b (ap tail p))
  data_inj (integer a) (integer b) p = ap integer (coded_ℤ.inj a b (ap tail p))
  data_inj (text a) (text b) p = ap text (bytes_code.inj a b (ap tail p))
  data_inj (bytes a) (bytes b) p = ap bytes (bytes_code.inj a b (ap tail p))
  data_inj (list a) (list b) p = ap list (items_inj a b (ap tail p))
  data_inj (map a) (map b) p = ap map (members_inj a b (ap tail p))
  data_inj (link a) (link b) p = ap link (bytes_code.inj a b (ap tail p))
  data_inj x y p = absurd cc

  pub items_inj : (x y : Items) → items_gv x ≡ items_gv y → x ≡ y
  items_inj no_items no_items p = refl
  items_inj (item d ds) (item e es) p = λ i. item (data_inj d e (ap head p) i) (items_inj ds es (ap tail p) i)
  items_inj x y p = absurd cc

  pub members_inj : (x y : Members) → members_gv x ≡ members_gv y → x ≡ y
  members_inj no_members no_members p = refl
  members_inj (member k d ms) (member l e ns) p =
      λ i. member (bytes_code.inj k l (ap head p) i) (data_inj d e (ap (λ g. head (tail g)) p) i) (members_inj ms ns (ap (λ g. tail (tail g)) p) i)
  members_inj x y p = absurd cc

abbrev pub items_code : Coded Items
items_code = record { code = items_gv; inj = items_inj }

abbrev pub members_code : Coded Members
members_code = record { code = members_gv; inj = members_inj }
