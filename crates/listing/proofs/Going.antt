-- A text that goes to a receiver in pieces: what it took, and what still stands in the line. Assumes nothing.
use Rattle.std.proofs.Common.{◌≡◌, sym, ap, subst, ◌∙◌, List, [], ◌++◌, append_assoc, append-nil, ℕ, Result, Ok, Err, OnOk, OnErr}
use Rattle.listing.specs.Line.{Line, Adds}

-- a became b by taking the front of a text, of which the rest stands in the line
pub record Gone {T : Type 0} (takes : T → List ℕ → T → Type 0) (a b : T) (t : Line) (l : List ℕ) : Type 0 where
  pub front : List ℕ
  pub went : takes a front b
  pub whole : front ++ t.text ≡ l

module _ {T : Type 0} (takes : T → List ℕ → T → Type 0) where
  pub gone-none : (a : T) (t : Line) → takes a [] a → t.text ≡ [] → Gone takes a a t []
  gone-none a t f e = record { front = []; went = f; whole = e }

  -- more stands in the line
  pub gone-adds : (a b : T) (t u : Line) (l k : List ℕ) → Gone takes a b t l → Adds t k u → Gone takes a b u (l ++ k)
  gone-adds a b t u l k f g =
      record { front = f.front; went = f.went; whole = ap (λ m. f.front ++ m) g.text ∙ sym (append_assoc f.front t.text k) ∙ ap (λ m. m ++ k) f.whole }

  -- the line, whose text is found to be k, is taken
  module _ (more : (a b c : T) (l k : List ℕ) → takes a l b → takes b k c → takes a (l ++ k) c) (a b c : T) (t : Line) (l k : List ℕ) (f : Gone takes a b t l) (e : k ≡ t.text) where
    pub gone-all : takes b k c → takes a l c
    gone-all g = subst (λ m. takes a m c) (ap (λ m. f.front ++ m) e ∙ f.whole) (more a b c f.front k f.went g)

    pub gone-on : (u : Line) → takes b k c → u.text ≡ [] → Gone takes a c u l
    gone-on u g z = record { front = l; went = gone-all g; whole = ap (λ m. l ++ m) z ∙ append-nil l }

  -- it fails at the line
  pub gone-stops : (stops : T → List ℕ → T → Type 0) → ((a b c : T) (l k : List ℕ) → takes a l b → stops b k c → stops a (l ++ k) c)
      → (a b c : T) (t : Line) (l k : List ℕ) → Gone takes a b t l → k ≡ t.text → stops b k c → stops a l c
  gone-stops stops after a b c t l k f e g = subst (λ m. stops a m c) (ap (λ m. f.front ++ m) e ∙ f.whole) (after a b c f.front k f.went g)

-- a text l, and what follows it
module _ {T : Type 0} (takes : T → List ℕ → T → Type 0) (a b c : T) (l n m : List ℕ) (f : l ++ n ≡ m) where
  pub takes-then : ((a b c : T) (l k : List ℕ) → takes a l b → takes b k c → takes a (l ++ k) c) → takes a l b → takes b n c → takes a m c
  takes-then more g h = subst (λ m. takes a m c) f (more a b c l n g h)

  pub stops-then : (stops : T → List ℕ → T → Type 0) → ((a b c : T) (l k : List ℕ) → takes a l b → stops b k c → stops a (l ++ k) c) → takes a l b → stops b n c → stops a m c
  stops-then stops after g h = subst (λ m. stops a m c) f (after a b c l n g h)

-- failed at the front of a text, it failed at the text
pub stops-in : {T : Type 0} (stops : T → List ℕ → T → Type 0) → ((a b : T) (l k : List ℕ) → stops a l b → stops a (l ++ k) b) → (a b : T) (l k m : List ℕ) → l ++ k ≡ m → stops a l b → stops a m b
stops-in stops within a b l k m e f = subst (λ m. stops a m b) e (within a b l k f)

-- ---- what a function answers that may fail
module _ {A E : Type 0} (r : Result A E) {P Q : Type 0} where
  pub on_ok : (P → Q) → OnOk r P → OnOk r Q
  on_ok f = go r
    where
      go : (r : Result A E) → OnOk r P → OnOk r Q
      go (Ok x) h = f h
      go (Err e) h = h

  pub on_err : (P → Q) → OnErr r P → OnErr r Q
  on_err f = go r
    where
      go : (r : Result A E) → OnErr r P → OnErr r Q
      go (Ok x) h = h
      go (Err e) h = f h

-- what holds anyhow holds where it failed, and where it did not
module _ {A E : Type 0} (r : Result A E) {P : Type 0} (h : P) where
  pub failed : OnErr r P
  failed = go r
    where
      go : (r : Result A E) → OnErr r P
      go (Ok x) = tt
      go (Err e) = h

  pub done : OnOk r P
  done = go r
    where
      go : (r : Result A E) → OnOk r P
      go (Ok x) = h
      go (Err e) = tt
