-- Of a form with no breach: every argument has a key, each key finds its argument, and what is found has the key.
use Rattle.std.proofs.Common.{◌≡◌, ℕ, zero, suc, ◌+◌, Bool, true, false, cond, List, [], ◌∷◌, ◌++◌, map, Some, None, Option, sym, refl, ap, subst, inl, inr, arith}
use Rattle.std.proofs.lemmas.Bool.{both_ways}
use Rattle.form.specs.Model.{Name, Arg, Form}
use Rattle.form.specs.Keys.{KeyName, position, letter, long, Key, listed, key_names, arg_keys, keys_from, keys_of, same_key, first_key}
use Rattle.form.specs.SameKey.{same_key_is, same_key_self}
use Rattle.rules.specs.declared.breach.Breach.{Breach}
use Rattle.rules.specs.Order.{Stands, Member}
use Rattle.rules.specs.Words.{Flag, of_argument}
use Rattle.rules.specs.Breaks.{Breaks, rule_12}
use Rattle.rules.specs.Tidy.{HasKey}
use Rattle.rules.proofs.TidyPlaces.{nothing, member_stands, member_left, member_right, member_split, member_map, member_unmap}
use Rattle.rules.proofs.TidyOwners.{argument_owns, one_long, one_letter}
use Rattle.rules.proofs.TidyPositions.{one_index}

abbrev beside : KeyName → ℕ → Key
beside k p = record { name = k; place = p }

-- what is found stands among the keys
found_member : (k : KeyName) (es : List Key) (p : ℕ) → first_key k es ≡ Some p → Member (beside k p) es
found_member k [] p e = nothing p e
found_member k (x ∷ es) p e = go (same_key k x.name) refl e (found_member k es p)
  where
    go : (b : Bool) → same_key k x.name ≡ b → cond b (Some x.place) (first_key k es) ≡ Some p → (first_key k es ≡ Some p → Member (beside k p) es) → Member (beside k p) (x ∷ es)
    go true t e r = let i : k ≡ x.name = same_key_is k x.name t in let j : p ≡ x.place = cc in inl (rw (i, j))
    go false t e r = inr (r e)

-- a key that stands with one place alone finds it
member_found : (k : KeyName) (es : List Key) (p : ℕ) → Member (beside k p) es → ((q : ℕ) → Member (beside k q) es → q ≡ p) → first_key k es ≡ Some p
member_found k [] p h only = absurd h
member_found k (x ∷ es) p h only = go (same_key k x.name) refl h (λ l. member_found k es p l (λ q m. only q (inr m)))
  where
    go : (b : Bool) → same_key k x.name ≡ b → Member (beside k p) (x ∷ es) → (Member (beside k p) es → first_key k es ≡ Some p) → cond b (Some x.place) (first_key k es) ≡ Some p
    go true t h r = let i : k ≡ x.name = same_key_is k x.name t in ap (λ q. Some q) (only x.place (inl (rw i)))
    go false t (inl e) r = absurd (both_ways _ t (subst (λ (y : Key). same_key k y.name ≡ true) e (same_key_self k)))
    go false t (inr m) r = r m

-- the keys of a form are those of its arguments, each with its place
keys_in : (n m : ℕ) (xs : List Arg) (p : ℕ) (a : Arg) (k : KeyName) → Stands xs p a → m ≡ n + p → Member k (key_names a.index a) → Member (beside k m) (keys_from n xs)
unfolding keys_from
keys_in n m [] p a k h e s = nothing a h
keys_in n m (x ∷ xs) zero a k h e s =
    let d : m ≡ n = omega arith in
    let i : a ≡ x = cc in
    member_left (arg_keys n x) (keys_from (suc n) xs) (beside k m) (rw d (member_map (λ k. beside k n) (key_names x.index x) k (subst (λ (y : Arg). Member k (key_names y.index y)) i s)))
keys_in n m (x ∷ xs) (suc p) a k h e s = member_right (arg_keys n x) (keys_from (suc n) xs) (beside k m) (keys_in (suc n) m xs p a k h (omega arith) s)

keys_out : (n m : ℕ) (xs : List Arg) (k : KeyName) → Member (beside k m) (keys_from n xs) → (p : ℕ) × (a : Arg) × Stands xs p a × (m ≡ n + p) × Member k (key_names a.index a)
unfolding keys_from
keys_out n m [] k h = absurd h
keys_out n m (x ∷ xs) k h = elim (member_split (arg_keys n x) (keys_from (suc n) xs) (beside k m) h) [
  | inl l ↦ (let r = member_unmap (λ k. beside k n) (key_names x.index x) (beside k m) l in
      let d : m ≡ n = ap (λ (y : Key). y.place) r.2 in
      (0, x, refl, omega arith, subst (λ i. Member i (key_names x.index x)) (sym (ap (λ (y : Key). y.name) r.2)) r.1))
  | inr l ↦ (let r = keys_out (suc n) m xs k l in (suc r.0, r.1, r.2, omega arith, r.4))
]

-- what a key of an argument with the index o is: that index, or one of its flags
abbrev From : Option ℕ → Arg → KeyName → Type 0
From o a (position n) = o ≡ Some n
From o a (letter c) = (j : ℕ) × Flag a.letter a.letter_aliases j c
From o a (long x) = (j : ℕ) × Flag a.long a.long_aliases j x

-- a flag, from its own list or from the aliases
own_flag : {X : Type 0} (own : Option X) (aliases : List X) (x : X) → Member x (listed own) → (j : ℕ) × Flag own aliases j x
own_flag None aliases x h = absurd h
own_flag (Some y) aliases x (inl e) = (0, inl (refl, ap (λ z. Some z) (sym e)))
own_flag (Some y) aliases x (inr h) = absurd h

alias_flag : {X : Type 0} (own : Option X) (aliases : List X) (x : X) → Member x aliases → (j : ℕ) × Flag own aliases j x
alias_flag own aliases x h = let r = member_stands aliases x h in (suc r.0, inr (r.0, refl, r.1))

made_by : {X : Type 0} (o : Option ℕ) (a : Arg) (make : X → KeyName) (xs : List X) (k : KeyName) → ((x : X) → Member x xs → From o a (make x)) → Member k (map make xs) → From o a k
made_by o a make xs k up h = let r = member_unmap make xs k h in subst (From o a) (sym r.2) (up r.0 r.1)

key_from : (o : Option ℕ) (a : Arg) (k : KeyName) → Member k (key_names o a) → From o a k
key_from (Some j) a k (inl e) = subst (From (Some j) a) (sym e) refl
key_from (Some j) a k (inr h) = absurd h
key_from None a k h =
    elim (member_split (map letter (listed a.letter)) _ k h) [
      | inl l ↦ made_by None a letter (listed a.letter) k (own_flag a.letter a.letter_aliases) l
      | inr h ↦ elim (member_split (map long (listed a.long)) _ k h) [
        | inl l ↦ made_by None a long (listed a.long) k (own_flag a.long a.long_aliases) l
        | inr h ↦ elim (member_split (map letter a.letter_aliases) _ k h) [
          | inl l ↦ made_by None a letter a.letter_aliases k (alias_flag a.letter a.letter_aliases) l
          | inr l ↦ made_by None a long a.long_aliases k (alias_flag a.long a.long_aliases) l
        ]
      ]
    ]

-- an argument with an index, a letter or a long name has a key
some_key : (o : Option ℕ) (a : Arg) → ((a.letter ≡ None) × (a.long ≡ None) → o ≡ None → ⊥) → (k : KeyName) × Member k (key_names o a)
some_key (Some j) a n = (position j, inl refl)
some_key None a n = go a.letter a.long (λ c l. n (c, l) refl)
  where
    go : (c : Option ℕ) (l : Option Name) → (c ≡ None → l ≡ None → ⊥) → (k : KeyName) × Member k (map letter (listed c) ++ (map long (listed l) ++ (map letter a.letter_aliases ++ map long a.long_aliases)))
    go (Some c) l n = (letter c, inl refl)
    go None (Some x) n = (long x, inl refl)
    go None None n = absurd (n refl refl)

module _ (f : Form) where
  key_in : (k : KeyName) (p : ℕ) → HasKey f k p → Member (beside k p) (keys_of f)
  key_in k p h = keys_in 0 p f.args p h.0 k h.1 (omega arith) h.2

  key_out : (k : KeyName) (p : ℕ) → Member (beside k p) (keys_of f) → HasKey f k p
  key_out k p h =
      let r = keys_out 0 p f.args k h in
      let e : r.0 ≡ p = omega arith in
      (r.1, subst (λ q. Stands f.args q r.1) e r.2, r.4)

  pub found : (k : KeyName) (p : ℕ) → first_key k (keys_of f) ≡ Some p → HasKey f k p
  found k p e = key_out k p (found_member k (keys_of f) p e)

  module _ (none : (b : Breach) → Breaks f b → ⊥) where
    one_from : (k : KeyName) (p q : ℕ) (a b : Arg) → Stands f.args p a → Stands f.args q b → From a.index a k → From b.index b k → p ≡ q
    one_from (position n) p q a b h l s t = one_index f none n p q a b h l s t
    one_from (letter c) p q a b h l s t =
        let e = one_letter f none c _ _ (of_argument p a, s.0, argument_owns f p a h, s.1) (of_argument q b, t.0, argument_owns f q b l, t.1) in omega arith
    one_from (long x) p q a b h l s t =
        let e = one_long f none x _ _ (of_argument p a, s.0, argument_owns f p a h, s.1) (of_argument q b, t.0, argument_owns f q b l, t.1) in omega arith

    pub one_key : (k : KeyName) (p q : ℕ) → HasKey f k p → HasKey f k q → p ≡ q
    one_key k p q h l = one_from k p q h.0 l.0 h.1 l.1 (key_from _ h.0 k h.2) (key_from _ l.0 k l.2)

    pub finds : (k : KeyName) (p : ℕ) → HasKey f k p → first_key k (keys_of f) ≡ Some p
    finds k p h = member_found k (keys_of f) p (key_in k p h) (λ q l. one_key k q p (key_out k q l) h)

    pub keyed : (p : ℕ) (a : Arg) → Stands f.args p a → (k : KeyName) × HasKey f k p
    keyed p a h = let r = some_key a.index a (λ b i. none _ (rule_12 p a h b i)) in (r.0, (a, h, r.1))
