-- Items as blocks by themselves.
use Rattle.std.proofs.Common.{◌≡◌, ℕ, true, false, List, [], Option, Some, None, refl, sym, ◌∙◌, ap, subst, arith}
use Rattle.std.proofs.Math.Logic.{∥∥₁_elim}
use Rattle.std.specs.Borrow.{Bor}
use Rattle.std.specs.Prelude.{Result, Ok, Err, is_none}
use Rattle.std.proofs.Props.{props}
use Rattle.std.proofs.Math.Bool.{Bool-set}
use Rattle.ild_cbor.proofs.Blocks.{block_again}
use Rattle.ild_cbor.specs.Block.{IsBlockOf}
use Rattle.ild_cbor.specs.Nodes.{IsRoot, HasData}
use Rattle.ild_cbor.specs.Reading.{fault_of}
use Rattle.ild_cbor.specs.declared.node.Node.{Node}
use Rattle.ild_path_block.proofs.Replacing.{part_comes}
use Rattle.ild_data.proofs.Options.{none_is}
use Rattle.ild_data.specs.Data as T
use Rattle.ild_data.specs.Data.{Data, members_list}
use Rattle.ild_data.specs.Key.{without}
use Rattle.ild_data.specs.Limits.{IsWithin}
use Rattle.ild_data.specs.Spell.{spell}
use Rattle.ild_layer_piece.specs.Pieces.{IsWithout}
use Rattle.ild_path_apply.specs.Applies.{Applies, Come, is_whole}
use Rattle.ild_path_changes.specs.Lift.{lift_within}
use Rattle.ild_path_last.specs.Change.{NewIs, located}
use Rattle.ild_path_last.specs.declared.change.LastChange.{LastChange}
use Rattle.ild_path_last.specs.declared.change.LastChange.TheVariants as C
use Rattle.ild_splice.specs.Laws.{ChangesStayWithin, RootsAreAt}
use Rattle.ild_splice.specs.Made.{MakesBytes}
use Rattle.ild_splice.specs.Splices.{IsAt}
use Rattle.ild_splice.specs.declared.error.SpliceErr.{SpliceErr}
use Rattle.ild_splice.specs.declared.error.SpliceErr.TheVariants.{Size}
use Rattle.ild_path_item.proofs.Shorter.{gone_shorter}
use Rattle.ild_splice_changes.specs.TreeChange.{Located, applied, one, remove_entry, unchanged}
use Rattle.ild_typed.specs.Strings.{map_data}

-- the bytes of an item are a block
pub no_fault : (n : Node) (b : List ℕ) → ((t : Data) → HasData n t → b ≡ spell t) → fault_of b ≡ None
no_fault n b is = none_is (fault_of b) (∥∥₁_elim n.stands (Bool-set (is_none (fault_of b)) true) (λ h. ap is_none (block_again b h.of (record { within = h.spells.within; spelled = is h.of h.spells }))))

-- a change within a whole is the change
within_all : (e : Located) → lift_within [] e ≡ e
within_all unchanged = refl
within_all (one p c) = refl

-- the changed item of a block
pub makes_changed : (n : Node) (change : LastChange) (new : Option Node) (t : Data) (x u : Option Data) (r : Result (List ℕ) SpliceErr) → IsAt n t [] t → is_whole change ≡ false → NewIs new x
    → ((x u : Option Data) → Come change new None x u → Applies n (located change x u) r) → MakesBytes (spell (applied (located change x u) t)) r
makes_changed n change new t x u r at not h all = subst (λ e. MakesBytes (spell (applied e t)) r) (within_all (located change x u)) ((all x u (part_comes change new x u not h)).makes t t [] at)

-- ---- a map without an entry

pub gone_part : (key : Bor (List ℕ)) → Come (C.RemoveEntry key) None None None None
gone_part key = record { part = tt; holder = λ e. absurd cc }

-- what is left of any item
left_block : (key : List ℕ) (n : Node) (b : List ℕ) (t : Data) → IsAt n t [] t → IsWithin t → ChangesStayWithin → Applies n (one [] (remove_entry key)) (Ok b) → IsBlockOf b (applied (one [] (remove_entry key)) t)
left_block key n b t at within stays made =
    let m = made.makes t t [] at in
    record { within = stays t t [] (remove_entry key) within at.part tt (omega arith) m.1; spelled = m.0 }

pub left_faultless : (key : List ℕ) (n m : Node) (b : List ℕ) → ((t : Data) → HasData n t → IsAt m t [] t) → ChangesStayWithin → Applies m (one [] (remove_entry key)) (Ok b) → fault_of b ≡ None
left_faultless key n m b roots stays made =
    none_is (fault_of b)
    (∥∥₁_elim n.stands (Bool-set (is_none (fault_of b)) true) (λ h. ap is_none (block_again b (applied (one [] (remove_entry key)) h.of) (left_block key m b h.of (roots h.of h.spells) h.spells.within stays made))))

-- it isn't too long
pub left_short : (key : List ℕ) (n m : Node) → ((t : Data) → HasData n t → IsAt m t [] t) → Applies m (one [] (remove_entry key)) (Err Size) → ⊥
left_short key n m roots made =
    ∥∥₁_elim n.stands (hlevel props) (λ h.
    let long = (made.makes h.of h.of [] (roots h.of h.spells)) in
    let less = gone_shorter key h.of in
    let sized = h.spells.within.sized in
    omega (arith, long, less, sized))

-- the member that stands without the discriminant
pub left_root : (key : List ℕ) (n m root : Node) (b : List ℕ) (t : Data) → IsWithout (Some key) n t → ((t : Data) → HasData n t → IsAt m t [] t) → ChangesStayWithin → RootsAreAt → Applies m (one [] (remove_entry key)) (Ok b)
    → ((d : Data) → IsBlockOf b d → IsRoot root b d) → IsAt root t [] t
left_root key n m root b t w roots stays whole made is =
    let block = left_block key m b (T.map w.entries) (roots (T.map w.entries) w.stands) w.stands.within stays made in
    let same : applied (one [] (remove_entry key)) (T.map w.entries) ≡ t = ap (λ k. map_data (without k (members_list w.entries))) (own key w.key w.key_is) ∙ sym w.rest in
    let there = subst (IsBlockOf b) same block in
    whole root b t there (is t there)
  where
    own : (a c : List ℕ) → Some a ≡ Some c → a ≡ c
    own a c e = let s = e in cc
