-- What was written, one piece after another.
use Rattle.std.proofs.Common.{◌≡◌, ℕ, List, [], ◌++◌, ◌≤◌, Option, Some, None, Result, Ok, Err, refl, sym, ap, subst, ◌∙◌, append_assoc, append-nil}
use Rattle.std.specs.Prelude.{IsErrAnd}
use Rattle.ild_edges.specs.Sink.{Appends, AppendsFront, FrontIsWritten, Output, Writes}
use Rattle.ild_edges.specs.declared.error.EdgeErr.{EdgeErr}
use Rattle.ild_edges.specs.declared.error.EdgeErr.TheVariants.{Failed, Memory}

pub appends_none : (was : Option (List ℕ)) → Appends was was []
appends_none None = tt
appends_none (Some a) = sym (append-nil a)

pub appends_then : (a b c : Option (List ℕ)) (x y : List ℕ) → Appends a b x → Appends b c y → Appends a c (x ++ y)
appends_then None None None x y p q = tt
appends_then (Some a) (Some b) (Some c) x y p q = q ∙ ap (λ zs. zs ++ y) p ∙ append_assoc a x y
appends_then None (Some b) c x y p q = absurd p
appends_then (Some a) None c x y p q = absurd p
appends_then None None (Some c) x y p q = absurd q
appends_then (Some a) (Some b) None x y p q = absurd q

-- nothing is a front of any text
pub HasFront-none : (text was : List ℕ) → FrontIsWritten text was was
HasFront-none text was = record { front = []; rest = text; whole = refl; is = sym (append-nil was) }

pub front_none : (was : Option (List ℕ)) (text : List ℕ) → AppendsFront was was text
front_none None text = tt
front_none (Some a) text = HasFront-none text a

-- a text is a front of itself
pub front_whole : (a b : Option (List ℕ)) (text : List ℕ) → Appends a b text → AppendsFront a b text
front_whole None None text p = tt
front_whole (Some a) (Some b) text p = record { front = text; rest = []; whole = sym (append-nil text); is = p }
front_whole None (Some b) text p = absurd p
front_whole (Some a) None text p = absurd p

-- a text, and then a front of another
pub front_then : (a b c : Option (List ℕ)) (x y : List ℕ) → Appends a b x → AppendsFront b c y → AppendsFront a c (x ++ y)
front_then None None None x y p q = tt
front_then (Some a) (Some b) (Some c) x y p q = record {
  front = x ++ q.front;
  rest = q.rest;
  whole = ap (λ zs. x ++ zs) q.whole ∙ sym (append_assoc x q.front q.rest);
  is = q.is ∙ ap (λ zs. zs ++ q.front) p ∙ append_assoc a x q.front;
}
front_then None (Some b) c x y p q = absurd p
front_then (Some a) None c x y p q = absurd p
front_then None None (Some c) x y p q = absurd q
front_then (Some a) (Some b) None x y p q = absurd q

-- a front of a text is one of a longer text
pub front_more : (a b : Option (List ℕ)) (x y : List ℕ) → AppendsFront a b x → AppendsFront a b (x ++ y)
front_more None None x y p = tt
front_more (Some a) (Some b) x y p = record {
  front = p.front;
  rest = p.rest ++ y;
  whole = ap (λ zs. zs ++ y) p.whole ∙ append_assoc p.front p.rest y;
  is = p.is;
}
front_more None (Some b) x y p = absurd p
front_more (Some a) None x y p = absurd p

-- a write that lacked memory and appended nothing
pub writes_none : (m n : Output) (piece : List ℕ) (result : Result (Unit {0}) EdgeErr) → IsErrAnd result (λ e. e ≡ Memory) → n.written ≡ m.written → m.faults ≤ n.faults → Writes m piece result n
writes_none m n piece (Ok x) e same le = absurd e
writes_none m n piece (Err Failed) e same le = cc
writes_none m n piece (Err Memory) e same le = record {
  answer = subst (λ (w : Option (List ℕ)). AppendsFront m.written w piece) (sym same) (front_none m.written piece);
  faults = le;
}

-- pieces one after another, and a front of the last one
pub ruleset written = (appends_none, appends_then, front_none, front_then, front_more)
