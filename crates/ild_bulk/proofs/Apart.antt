-- Marks that are put into parts by the index of their keys.
use Rattle.std.proofs.Common.{◌≡◌, ◌==◌, ◌<◌, ◌+◌, ◌^◌, ◌∙◌, ℕ, cond, length, take, map, get_or, set, List, [], ◌∷◌, ◌++◌, sym, ap, subst, arith, ⊎_elim}
use Rattle.std.specs.Global.{Vec}
use Rattle.std.proofs.lemmas.Bool.{cases_eq, cases_lt, eq-eqb, ne_eqb}
use Rattle.std.proofs.lemmas.List.{append-nil, get_or-set_other, get_or-set_same, get_or_append_left, get_or_push, length-append, length-set, map-append}
use Rattle.std.proofs.lemmas.List.Elements.{filter-append}
use Rattle.ild_data.specs.Data.{Data}
use Rattle.ild_data.specs.Trie.{at_depth, part}
use Rattle.ild_data.specs.declared.hamt_shape.HamtShape.{HamtShape}
use Rattle.ild_data.specs.TrieShape.{index}
use Rattle.ild_hamt_trie.proofs.Index.{index_below}
use Rattle.ild_bulk.specs.Keyed.{AreBare, AreMarked, HasMarks, IsMarked, mark_behind}
use Rattle.ild_bulk.specs.declared.entries.BorrowedMark.{BorrowedMark}
use Rattle.ild_bulk.specs.declared.entries.Mark.{Mark}
use Rattle.ild_bulk.proofs.Marking.{marked-next, marked-push}

pub bare-more : (i : ℕ) (parts : List (Vec BorrowedMark)) (v : Vec BorrowedMark) → AreBare i parts → v.items ≡ [] → AreBare (i + 1) (parts ++ v ∷ [])
bare-more i parts v was none =
    let many = was.many in
    let long = length-append parts (v ∷ []) in
    record {
      many = omega (arith, many, long);
      each = λ j z below. ⊎_elim
          (λ inside. ap (λ (w : Vec BorrowedMark). w.items) (get_or_append_left parts (v ∷ []) z j (omega (arith, many))) ∙ was.each j z inside)
          (λ past. ap (λ (w : Vec BorrowedMark). w.items) (get_or_push parts v z j (omega (arith, many))) ∙ none)
          (cases_lt j i);
    }

pub apart-none : (p : HamtShape) (h : List ℕ → List ℕ) (depth : ℕ) (b : List ℕ) (parts : List (Vec BorrowedMark)) → AreBare (2 ^ p.width) parts → HasMarks h p depth b [] parts
apart-none p h depth b parts bare = record {
  many = bare.many;
  each = λ i z lt. subst (λ (ms : List BorrowedMark). AreMarked h b [] (map mark_behind ms)) (sym (bare.each i z lt)) tt;
}

-- the mark of one entry more goes to the end of its part
apart_push : (p : HamtShape) (h : List ℕ → List ℕ) (depth : ℕ) (b : List ℕ) (es : List (List ℕ × Data)) (e : List ℕ × Data) (parts : List (Vec BorrowedMark)) (k : BorrowedMark) (j : ℕ) (old w : Vec BorrowedMark)
    → HasMarks h p depth b es parts → IsMarked h b e k.mark.now → j < 2 ^ p.width → j ≡ index p k.mark.now.hash depth → old ≡ get_or parts j old → w.items ≡ old.items ++ k ∷ []
    → HasMarks h p depth b (es ++ e ∷ []) (set parts j w)
apart_push p h depth b es e parts k j old w was is below here reads pushes =
    let at : at_depth h p depth e.0 ≡ j = ap (λ s. index p s depth) (sym is.hash) ∙ sym here in
    record {
      many = length-set parts j w ∙ was.many;
      each = λ i z lt.
          let whole : part (at_depth h p depth) (es ++ e ∷ []) i ≡ part (at_depth h p depth) es i ++ cond (at_depth h p depth e.0 == i) (e ∷ []) [] =
          filter-append (λ (x : List ℕ × Data). at_depth h p depth x.0 == i) es (e ∷ []) in
          ⊎_elim
          (λ same.
          let entries : part (at_depth h p depth) (es ++ e ∷ []) i ≡ part (at_depth h p depth) es j ++ e ∷ [] =
          whole ∙ ap (λ t. part (at_depth h p depth) es i ++ cond t (e ∷ []) []) (eq-eqb (at_depth h p depth e.0) i (at ∙ sym same)) ∙ ap (λ n. part (at_depth h p depth) es n ++ e ∷ []) same in
          let marks : map mark_behind (get_or (set parts j w) i z).items ≡ map mark_behind old.items ++ k.mark.now ∷ [] =
          ap (λ (v : Vec BorrowedMark). map mark_behind v.items) (ap (λ m. get_or (set parts j w) m z) same ∙ get_or-set_same parts j w z (omega (arith, was.many)))
          ∙ ap (map mark_behind) pushes ∙ map-append mark_behind old.items (k ∷ []) in
          let before = subst (λ (v : Vec BorrowedMark). AreMarked h b (part (at_depth h p depth) es j) (map mark_behind v.items)) (sym reads) (was.each j old below) in
          subst (λ (xs : List (List ℕ × Data)). AreMarked h b xs (map mark_behind (get_or (set parts j w) i z).items)) (sym entries)
          (subst (λ (ms : List Mark). AreMarked h b (part (at_depth h p depth) es j ++ e ∷ []) ms) (sym marks)
          (marked-push h b (part (at_depth h p depth) es j) (map mark_behind old.items) e k.mark.now before is)))
          (λ other.
          let entries : part (at_depth h p depth) (es ++ e ∷ []) i ≡ part (at_depth h p depth) es i =
          whole ∙ ap (λ t. part (at_depth h p depth) es i ++ cond t (e ∷ []) []) (ne_eqb (at_depth h p depth e.0) i (λ q. other (sym q ∙ at))) ∙ append-nil (part (at_depth h p depth) es i) in
          subst (λ (xs : List (List ℕ × Data)). AreMarked h b xs (map mark_behind (get_or (set parts j w) i z).items)) (sym entries)
          (subst (λ (v : Vec BorrowedMark). AreMarked h b (part (at_depth h p depth) es i) (map mark_behind v.items)) (sym (get_or-set_other parts j i w z other)) (was.each i z lt)))
          (cases_eq i j);
    }

-- the next mark
pub apart-more : {A : Type 0} (p : HamtShape) (f : A → Mark) (h : List ℕ → List ℕ) (b : List ℕ) (es : List (List ℕ × Data)) (depth : ℕ) (marks : List A) (i : ℕ) (d : A) (k : BorrowedMark) (parts : List (Vec BorrowedMark)) (j : ℕ) (old w : Vec BorrowedMark)
    → AreMarked h b es (map f marks) → HasMarks h p depth b (take i es) parts → i < length marks → d ≡ get_or marks i d → k.mark.now ≡ f d
    → j ≡ index p k.mark.now.hash depth → old ≡ get_or parts j old → w.items ≡ old.items ++ k ∷ [] → HasMarks h p depth b (take (i + 1) es) (set parts j w)
apart-more p f h b es depth marks i d k parts j old w are was lt is marked at reads pushes =
    let x = marked-next f h b es marks i d k.mark.now are lt is marked in
    subst (λ (fs : List (List ℕ × Data)). HasMarks h p depth b fs (set parts j w)) (sym x.2)
    (apart_push p h depth b (take i es) x.0 parts k j old w was x.1 (omega (arith, at, index_below p k.mark.now.hash depth)) at reads pushes)

-- the marks in a vector of their part
pub marks-in : (p : HamtShape) (h : List ℕ → List ℕ) (depth : ℕ) (b : List ℕ) (es : List (List ℕ × Data)) (parts : List (Vec BorrowedMark)) (i : ℕ) (v : Vec BorrowedMark) → HasMarks h p depth b es parts → i < 2 ^ p.width → v ≡ get_or parts i v
    → AreMarked h b (part (at_depth h p depth) es i) (map mark_behind v.items)
marks-in p h depth b es parts i v has lt is = subst (λ (w : Vec BorrowedMark). AreMarked h b (part (at_depth h p depth) es i) (map mark_behind w.items)) (sym is) (has.each i v lt)
