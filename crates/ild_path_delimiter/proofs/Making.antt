-- What is known of one holder by its view.
use Rattle.std.proofs.Common.{◌≡◌, ◌<◌, ℕ, zero, suc, List, [], ◌∷◌, length, true, false, arith, get_or, Option, Some, None, refl, sym, ◌∙◌, ap, subst}
use Rattle.std.specs.Borrow.{Bor}
use Rattle.std.specs.Prelude.{IsSomeAnd, Ok, is_some, option_map, slice_get}
use Rattle.std.proofs.lemmas.Option.{none-some, same_Some}
use Rattle.ild_cbor.specs.declared.piece.Piece.{Piece}
use Rattle.ild_data.specs.Data as T
use Rattle.ild_data.specs.Data.{Data}
use Rattle.ild_layer_piece.specs.Pieces.{StandsFor}
use Rattle.ild_path_delimiter.proofs.Held.{is_held}
use Rattle.ild_path_delimiter.specs.inside.Levels.{Becomes, StandsAsText, StandsFree}
use Rattle.ild_path_item.proofs.Viewing.{has_piece}
use Rattle.ild_path_item.specs.Texts.{AnswersText, LetsBe, becoming_with}
use Rattle.ild_path_holder.proofs.Written.{piece_stands}
use Rattle.ild_path_holder.specs.Along.{is_holder}
use Rattle.ild_schema.specs.declared.row.Row.{Row}
use Rattle.ild_typed.specs.At.{InSlot, seen}
use Rattle.ild_typed.specs.Hamt.{alone}
use Rattle.ild_typed.specs.Represented.{represented}
use Rattle.ild_typed.specs.Strings.{text_in}
use Rattle.ild_view.specs.Parts.{IsPartView}
use Rattle.ild_view.specs.View.{piece_of, slot_of, table_of}
use Rattle.ild_view.specs.declared.view.View.{View}

pub text_there : (r : Option (Bor (List ℕ))) (t : Data) → is_some r ≡ true → option_map (λ s. s.now) r ≡ text_in t → (j : List ℕ) × (t ≡ T.text j)
text_there None u e is = absurd cc
text_there (Some x) (T.text s) e is = (s, refl)
text_there (Some x) T.null e is = absurd (none-some x.now (sym is))
text_there (Some x) (T.boolean b) e is = absurd (none-some x.now (sym is))
text_there (Some x) (T.integer n) e is = absurd (none-some x.now (sym is))
text_there (Some x) (T.bytes s) e is = absurd (none-some x.now (sym is))
text_there (Some x) (T.list ds) e is = absurd (none-some x.now (sym is))
text_there (Some x) (T.map ms) e is = absurd (none-some x.now (sym is))
text_there (Some x) (T.link s) e is = absurd (none-some x.now (sym is))

-- the text for which a view stands
pub text_known : (rows : List Row) (q : InSlot) (v : View) (p : Piece) (r : Option (Bor (List ℕ))) → IsPartView rows q v → Some p ≡ piece_of v → ((rows : List Row) (t : Data) → StandsFor rows p t → option_map (λ s. s.now) r ≡ text_in t) → is_some r ≡ true
    → (j : List ℕ) × (represented alone rows q.0 q.1 ≡ Some (T.text j))
text_known rows q v p r view e clause some =
    let t = view.view.tree in
    let x = text_there r t some (clause (table_of v) t (piece_stands v q.1 view.view p e)) in
    let was = subst (λ u. represented alone rows u q.1 ≡ Some t) view.slot (subst (λ rs. represented alone rs (slot_of v) q.1 ≡ Some t) view.table view.view.front.tree) in
    (x.0, was ∙ ap Some x.1)

-- a view whose piece is no text
pub free_known : (rows : List Row) (q : InSlot) (v : View) (p : Piece) (r : Option (Bor (List ℕ))) → IsPartView rows q v → Some p ≡ piece_of v → ((rows : List Row) (t : Data) → StandsFor rows p t → option_map (λ s. s.now) r ≡ text_in t) → is_some r ≡ false → StandsFree rows q
free_known rows q v p r view e clause none = λ t made.
    let d = view.view.tree in
    let was = subst (λ u. represented alone rows u q.1 ≡ Some d) view.slot (subst (λ rs. represented alone rs (slot_of v) q.1 ≡ Some d) view.table view.view.front.tree) in
    let same : d ≡ t = same_Some d t (sym was ∙ made) in
    no_text r t none (clause (table_of v) d (piece_stands v q.1 view.view p e) ∙ ap text_in same)
  where
    no_text : (r : Option (Bor (List ℕ))) (t : Data) → is_some r ≡ false → option_map (λ s. s.now) r ≡ text_in t → text_in t ≡ None
    no_text None t none is = sym is
    no_text (Some x) t none is = absurd cc

-- one that has no piece holds nothing
pub piece_there : {A : Type 0} (rows : List Row) (q : InSlot) (v : View) → IsPartView rows q v → is_holder (seen rows q) ≡ true → None ≡ piece_of v → A
piece_there rows q v view holds none =
    let holds_here = subst (λ u. is_holder (seen (table_of v) (u, q.1)) ≡ true) (sym view.slot) (subst (λ rs. is_holder (seen rs q) ≡ true) (sym view.table) holds) in
    let h = is_held (table_of v) (slot_of v, q.1) view.view.tree view.view.front.tree holds_here in
    absurd (has_piece v q.1 h.type h.known view.view holds_here none)

-- ---- what it becomes

-- by what is told of its text
pub text_becomes : (rows : List Row) (q : InSlot) (v : View) (s : List ℕ) (new t : Option (List ℕ)) → IsPartView rows q v → AnswersText v s new (Ok t) → is_holder (seen rows q) ≡ true → StandsAsText rows q → Becomes rows q s new (option_map T.text t)
text_becomes rows q v s new t view all holds stands = record {
  stands = stands;
  is = λ o lets. sym
      (subst (λ u. is_holder (seen rows (u, q.1)) ≡ true → represented alone rows u q.1 ≡ Some (T.text stands.0) → LetsBe rows (seen rows (u, q.1)) s o (option_map T.text new) → option_map T.text t ≡ becoming_with rows (u, q.1) s o) view.slot
      (subst (λ rs. is_holder (seen rs (slot_of v, q.1)) ≡ true → represented alone rs (slot_of v) q.1 ≡ Some (T.text stands.0) → LetsBe rs (seen rs (slot_of v, q.1)) s o (option_map T.text new) → option_map T.text t ≡ becoming_with rs (slot_of v, q.1) s o) view.table
      (λ h m l. all q.1 o stands.0 view.view h m l)) holds stands.1 lets);
}

pub got_one : {A : Type 0} (P : A → Type 0) (xs : List A) (k : ℕ) (x : A) → IsSomeAnd (slice_get xs k) P → x ≡ get_or xs k x → P x
got_one P [] k x h e = absurd h
got_one P (y ∷ ys) zero x h e = subst P (sym e) h
got_one P (y ∷ ys) (suc k) x h e = got_one P ys k x h e

-- a place at which something stands
pub held_less : {A : Type 0} (P : A → Type 0) (xs : List A) (k : ℕ) → IsSomeAnd (slice_get xs k) P → k < length xs
held_less P [] k h = absurd h
held_less P (x ∷ xs) zero h = omega arith
held_less P (x ∷ xs) (suc k) h = let less = held_less P xs k h in omega (arith, less)

pub there_less : (xs : List (List ℕ)) (k : ℕ) (s : List ℕ) → slice_get xs k ≡ Some s → k < length xs
there_less [] k s e = absurd (none-some s e)
there_less (x ∷ xs) zero s e = omega arith
there_less (x ∷ xs) (suc k) s e = let less = there_less xs k s e in omega (arith, less)
