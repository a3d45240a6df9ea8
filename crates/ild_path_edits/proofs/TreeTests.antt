-- Tests of data: whether data are a tree.
use Rattle.std.proofs.Common.{◌≡◌, ℕ, ◌-◌, ◌^◌, ◌<◌, ℤ, pos, negsuc, List, [], ◌∷◌, Bool, true, false, T, leb, refl, arith}
use Rattle.std.specs.Prelude.{◌↔◌, IsUtf8, ◌&&◌, nat_lt}
use Rattle.std.specs.Str.{is_utf8}
use Rattle.std.specs.declared.cmp.Ordering.{Ordering}
use Rattle.std.specs.declared.cmp.Ordering.TheVariants.{Less, Equal, Greater}
use Rattle.std.proofs.lemmas.Bool.Decides.{nat_tests}
use Rattle.std.proofs.lemmas.Str.{is_utf8-from_IsUtf8, IsUtf8-from_is_utf8}
use Rattle.std.proofs.lemmas.Bool.{and_from, and_parts}
use Rattle.ild_data.specs.Bytes.{AreBytes}
use Rattle.ild_data.specs.Cid.{IsCid}
use Rattle.ild_data.specs.CidRead.{is_cid}
use Rattle.ild_data.specs.Data.{Data, null, boolean, integer, text, bytes, list, map, link, Items, no_items, item, Members, no_members, member, members_list}
use Rattle.ild_data.specs.Integer.{IsInt}
use Rattle.ild_data.specs.Key.{key_cmp, IsBelow}
use Rattle.ild_data.specs.Tree.{IsTree, AreTrees, AreEntries}
use Rattle.ild_data.proofs.Cids.{is_cid-IsCid, IsCid-is_cid}

-- what a test tells where something holds beforehand
pub record Told (Before F : Type 0) : Type 0 where
  pub is : Bool
  pub says : Before → (is ≡ true) ↔ F

pub false_true : false ≡ true → ⊥
false_true e = absurd cc

pub all_told : {B F : Type 0} → F → Told B F
all_told f = record { is = true; says = λ b. ((λ e. f), (λ h. refl)) }

pub none_told : {B F : Type 0} → (B → F → ⊥) → Told B F
none_told never = record { is = false; says = λ b. ((λ e. absurd (false_true e)), (λ h. absurd (never b h))) }

pub both_told : {A B F G : Type 0} → Told A F → Told B G → Told (A × B) (F × G)
both_told f g = record {
  is = f.is && g.is;
  says = λ b. (
    (λ e. let x = and_parts f.is g.is e in ((f.says b.0).0 x.0, (g.says b.1).0 x.1)),
    (λ h. and_from f.is g.is ((f.says b.0).1 h.0) ((g.says b.1).1 h.1)),
  );
}

pub told_by : {A B F G : Type 0} → (B → A) → (F → G) → (G → F) → Told A F → Told B G
told_by before on back f = record { is = f.is; says = λ b. ((λ e. on ((f.says (before b)).0 e)), (λ h. (f.says (before b)).1 (back h))) }

true_is : (b : Bool) → (b ≡ true) ↔ T b
true_is true = ((λ e. tt), (λ h. refl))
true_is false = ((λ e. absurd (false_true e)), (λ h. absurd h))

abbrev pub Decided : Type 0 → Type 0
Decided F = Told (Unit {0}) F

abbrev pub utf8_told : (s : List ℕ) → Decided (IsUtf8 s)
utf8_told s = record { is = is_utf8 s; says = λ b. ((λ e. IsUtf8-from_is_utf8 s e), (λ h. is_utf8-from_IsUtf8 s h)) }

pub less_told : (m n : ℕ) → Decided (m < n)
less_told m n = record { is = nat_lt m n; says = λ b. ((λ e. grind (arith, nat_tests, e)), (λ h. grind (arith, nat_tests, h))) }

pub both_decided : {F G : Type 0} → Decided F → Decided G → Decided (F × G)
both_decided f g = told_by (λ b. (tt, tt)) (λ h. (h.0, h.1)) (λ h. (h.0, h.1)) (both_told f g)

bytes_told : (s : List ℕ) → Decided (AreBytes s)
bytes_told [] = all_told tt
bytes_told (b ∷ s) = both_decided (less_told b 256) (bytes_told s)

int_told : (n : ℤ) → Decided (IsInt n)
int_told (pos n) = record {
  is = leb n (2 ^ 64 - 1);
  says = λ b. ((λ e. (record { le = tt }, record { le = (true_is (leb n (2 ^ 64 - 1))).0 e })), (λ h. (true_is (leb n (2 ^ 64 - 1))).1 (h.1).le));
}
int_told (negsuc n) = record {
  is = leb n (2 ^ 63 - 1);
  says = λ b. ((λ e. (record { le = (true_is (leb n (2 ^ 63 - 1))).0 e }, record { le = tt })), (λ h. (true_is (leb n (2 ^ 63 - 1))).1 (h.0).le));
}

cid_told : (s : List ℕ) → Decided (IsCid s)
cid_told s = record { is = is_cid s; says = λ b. ((λ e. is_cid-IsCid s e), (λ h. IsCid-is_cid s h)) }

order_told : (o : Ordering) → Decided (o ≡ Less)
order_told Less = all_told refl
order_told Equal = none_told (λ b e. absurd cc)
order_told Greater = none_told (λ b e. absurd cc)

below_told : {V : Type 0} (k : List ℕ) (ms : List (List ℕ × V)) → Decided (IsBelow k ms)
below_told k [] = all_told tt
below_told k (m ∷ ms) = order_told (key_cmp k m.0)

mutual
  pub tree_told : (d : Data) → Decided (IsTree d)
  tree_told null = all_told tt
  tree_told (boolean b) = all_told tt
  tree_told (integer n) = int_told n
  tree_told (text s) = utf8_told s
  tree_told (bytes s) = bytes_told s
  tree_told (list ds) = trees_told ds
  tree_told (map ms) = entries_told ms
  tree_told (link s) = both_decided (cid_told s) (bytes_told s)

  trees_told : (ds : Items) → Decided (AreTrees ds)
  trees_told no_items = all_told tt
  trees_told (item d ds) = both_decided (tree_told d) (trees_told ds)

  entries_told : (ms : Members) → Decided (AreEntries ms)
  entries_told no_members = all_told tt
  entries_told (member k d ms) =
      told_by (λ b. tt) (λ h. (h.0, (h.1).0, ((h.1).1).0, ((h.1).1).1)) (λ h. (h.0, (h.1, (h.2, h.3))))
      (both_decided (utf8_told k) (both_decided (tree_told d) (both_decided (below_told k (members_list ms)) (entries_told ms))))
