-- The spelling of a tree is bytes.
use Rattle.std.proofs.Common.{◌≡◌, ℕ, ◌+◌, ◌*◌, ◌^◌, ◌<◌, ℤ, pos, negsuc, List, [], ◌∷◌, ◌++◌, length, Bool, true, false, cond, refl, sym, subst, arith, ltb→lt, T}
use Rattle.std.specs.Prelude.{nat_lt}
use Rattle.std.specs.Int.{to_be_bytes, w16, w32, w64}
use Rattle.ild_cbor.specs.Block.{IsBlockOf}
use Rattle.ild_data.specs.Bytes.{AreBytes}
use Rattle.ild_data.specs.Data as D
use Rattle.ild_data.specs.Data.{Data, Items, Members, items_list, members_list}
use Rattle.ild_data.specs.Spell.{head, spell, spell_items, spell_members}
use Rattle.ild_data.specs.Tree.{AreEntries, AreTrees, IsTree}
use Rattle.ild_typed.proofs.Utf8Texts.{bytes_append, utf8_bytes, be_bytes}

two_bytes : (n : ℕ) → AreBytes (to_be_bytes w16 n)
two_bytes n = (omega arith, (omega arith, tt))

eight_bytes : (n : ℕ) → AreBytes (to_be_bytes w64 n)
eight_bytes n = (omega arith, (omega arith, (omega arith, (omega arith, (omega arith, (omega arith, (omega arith, (omega arith, tt))))))))

head_bytes : (major n : ℕ) → major < 8 → AreBytes (head major n)
head_bytes major n small = by (nat_lt n 24) (nat_lt n (2 ^ 8)) (nat_lt n (2 ^ 16)) (nat_lt n (2 ^ 32)) refl refl where
  below : (m : ℕ) → true ≡ nat_lt n m → n < m
  below m e = ltb→lt n m (subst T e tt)

  by : (a b c d : Bool) → a ≡ nat_lt n 24 → b ≡ nat_lt n (2 ^ 8)
      → AreBytes (cond a ((32 * major + n) ∷ []) (cond b ((32 * major + 24) ∷ n ∷ []) (cond c ((32 * major + 25) ∷ to_be_bytes w16 n) (cond d ((32 * major + 26) ∷ to_be_bytes w32 n) ((32 * major + 27) ∷ to_be_bytes w64 n)))))
  by true b c d e f = let h = below 24 e in (omega (arith, h, small), tt)
  by false true c d e f = let h = below (2 ^ 8) f in (omega (arith, small), (omega (arith, h), tt))
  by false false true d e f = (omega (arith, small), two_bytes n)
  by false false false true e f = (omega (arith, small), be_bytes n)
  by false false false false e f = (omega (arith, small), eight_bytes n)

string_bytes : (major : ℕ) (s : List ℕ) → major < 8 → AreBytes s → AreBytes (head major (length s) ++ s)
string_bytes major s small all = bytes_append (head major (length s)) s (head_bytes major (length s) small) all

bool_bytes : (b : Bool) → AreBytes (spell (D.boolean b))
bool_bytes false = (omega arith, tt)
bool_bytes true = (omega arith, tt)

integer_bytes : (n : ℤ) → AreBytes (spell (D.integer n))
integer_bytes (pos n) = head_bytes 0 n (omega arith)
integer_bytes (negsuc n) = head_bytes 1 n (omega arith)

mutual
  pub tree_bytes : (d : Data) → IsTree d → AreBytes (spell d)
  tree_bytes D.null tree = (omega arith, tt)
  tree_bytes (D.boolean b) tree = bool_bytes b
  tree_bytes (D.integer n) tree = integer_bytes n
  tree_bytes (D.text s) tree = string_bytes 3 s (omega arith) (utf8_bytes s tree)
  tree_bytes (D.bytes s) tree = string_bytes 2 s (omega arith) tree
  tree_bytes (D.list ds) tree = bytes_append (head 4 (length (items_list ds))) (spell_items ds) (head_bytes 4 (length (items_list ds)) (omega arith)) (items_bytes ds tree)
  tree_bytes (D.map ms) tree = bytes_append (head 5 (length (members_list ms))) (spell_members ms) (head_bytes 5 (length (members_list ms)) (omega arith)) (members_bytes ms tree)
  tree_bytes (D.link s) tree = (omega arith, (omega arith, string_bytes 2 (0 ∷ s) (omega arith) (omega arith, tree.1)))

  items_bytes : (ds : Items) → AreTrees ds → AreBytes (spell_items ds)
  items_bytes D.no_items all = tt
  items_bytes (D.item d ds) all = bytes_append (spell d) (spell_items ds) (tree_bytes d all.0) (items_bytes ds all.1)

  members_bytes : (ms : Members) → AreEntries ms → AreBytes (spell_members ms)
  members_bytes D.no_members all = tt
  members_bytes (D.member k d ms) all =
      bytes_append (head 3 (length k) ++ k ++ spell d) (spell_members ms)
      (bytes_append (head 3 (length k) ++ k) (spell d) (string_bytes 3 k (omega arith) (utf8_bytes k all.0)) (tree_bytes d all.1)) (members_bytes ms all.3)

-- and so is a block that spells one
pub block_bytes : (b : List ℕ) (t : Data) → IsBlockOf b t → AreBytes b
block_bytes b t x = subst AreBytes (sym x.spelled) (tree_bytes t x.within.tree)
