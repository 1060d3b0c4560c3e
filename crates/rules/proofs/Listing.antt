-- Lists of exactly what a property holds of, in the order of a rank, put together from such lists. Nothing here is of the subject.
use Rattle.std.proofs.Common.{◌≡◌, ℕ, zero, suc, ◌<◌, ◌≤◌, Bool, true, false, ◌&&◌, leb, ◌⊎◌, List, [], ◌∷◌, ◌++◌, take, drop, sym, refl, ◌∙◌, subst, inl, inr, arith}
use Rattle.std.proofs.lemmas.Bool.{and_parts, leb-true}
use Rattle.rules.specs.Order.{Stands, Member, Before, Ascends, blocks, when, Exactly}
use Rattle.rules.proofs.Spots.{Spot, Somewhere, Among, spot_stands, stands_spot, spot_drop, drop_spot, spot_take, take_spot}

-- the list begins with the part
abbrev pub Begins : List ℕ → List ℕ → Type 0
Begins [] r = Unit {0}
Begins (p ∷ ps) [] = ⊥
Begins (p ∷ ps) (r ∷ rs) = (r ≡ p) × Begins ps rs

-- it begins with the part and then a number from low on
abbrev pub Past : List ℕ → ℕ → List ℕ → Type 0
Past p low r = (k : ℕ) × (low ≤ k) × Begins (p ++ k ∷ []) r

pub begins_wide : (p q r : List ℕ) → Begins (p ++ q) r → Begins p r
begins_wide [] q r h = tt
begins_wide (p ∷ ps) q [] h = h
begins_wide (p ∷ ps) q (r ∷ rs) h = (h.0, begins_wide ps q rs h.1)

pub begins_before : (p r s : List ℕ) (i j : ℕ) → i < j → Begins (p ++ i ∷ []) r → Begins (p ++ j ∷ []) s → Before r s
begins_before [] [] s i j lt h k = absurd h
begins_before [] (r ∷ rs) [] i j lt h k = absurd k
begins_before [] (r ∷ rs) (s ∷ ss) i j lt h k = inl (omega (arith, h.0, k.0))
begins_before (p ∷ ps) [] s i j lt h k = absurd h
begins_before (p ∷ ps) (r ∷ rs) [] i j lt h k = absurd k
begins_before (p ∷ ps) (r ∷ rs) (s ∷ ss) i j lt h k = inr (h.0 ∙ sym k.0, begins_before ps rs ss i j lt h.1 k.1)

pub past_before : (p r s : List ℕ) (i low : ℕ) → i < low → Begins (p ++ i ∷ []) r → Past p low s → Before r s
past_before p r s i low lt h k = begins_before p r s i k.0 (omega (arith, k.1)) h k.2

member_cases : {X : Type 0} (x : X) (xs ys : List X) → Member x (xs ++ ys) → Member x xs ⊎ Member x ys
member_cases x [] ys m = inr m
member_cases x (y ∷ xs) ys (inl e) = inl (inl e)
member_cases x (y ∷ xs) ys (inr m) = elim (member_cases x xs ys m) [ inl a ↦ inl (inr a) | inr b ↦ inr b ]

member_left : {X : Type 0} (x : X) (xs ys : List X) → Member x xs → Member x (xs ++ ys)
member_left x [] ys m = absurd m
member_left x (y ∷ xs) ys (inl e) = inl e
member_left x (y ∷ xs) ys (inr m) = inr (member_left x xs ys m)

member_right : {X : Type 0} (x : X) (xs ys : List X) → Member x ys → Member x (xs ++ ys)
member_right x [] ys m = m
member_right x (y ∷ xs) ys m = inr (member_right x xs ys m)

ascends_append : {X : Type 0} (rank : X → List ℕ) (xs ys : List X) → Ascends rank xs → Ascends rank ys
    → ((x y : X) → Member x xs → Member y ys → Before (rank x) (rank y)) → Ascends rank (xs ++ ys)
ascends_append rank [] ys a b f = b
ascends_append rank (x ∷ xs) ys a b f = (
  λ y m. elim (member_cases y xs ys m) [ inl l ↦ a.0 y l | inr r ↦ f x y (inl refl) r ],
  ascends_append rank xs ys a.1 b (λ u v m n. f u v (inr m) n),
)

-- exactly what B holds of, and every rank is of the kind U
pub record Listed {X : Type 0} (rank : X → List ℕ) (U : List ℕ → Type 0) (B : X → Type 0) (xs : List X) : Type 0 where
  pub exactly : Exactly rank B xs
  pub under : (x : X) → B x → U (rank x)

pub listed_like : {X : Type 0} {rank : X → List ℕ} {U V : List ℕ → Type 0} {B C : X → Type 0} {xs : List X}
    → ((x : X) → B x → C x) → ((x : X) → C x → B x) → ((r : List ℕ) → U r → V r) → Listed rank U B xs → Listed rank V C xs
listed_like {rank = rank} f g u l = record {
  exactly = record { sound = λ x m. f x (l.exactly.sound x m); complete = λ x c. l.exactly.complete x (g x c); ascends = l.exactly.ascends };
  under = λ x c. u (rank x) (l.under x (g x c));
}

pub listed_none : {X : Type 0} {rank : X → List ℕ} {U : List ℕ → Type 0} {B : X → Type 0} → ((x : X) → B x → ⊥) → Listed rank U B []
listed_none f = record { exactly = record { sound = λ x m. absurd m; complete = f; ascends = tt }; under = λ x b. absurd (f x b) }

pub listed_append : {X : Type 0} {rank : X → List ℕ} {U V W : List ℕ → Type 0} {B C : X → Type 0} {xs ys : List X}
    → ((r s : List ℕ) → U r → V s → Before r s) → ((r : List ℕ) → U r → W r) → ((r : List ℕ) → V r → W r)
    → Listed rank U B xs → Listed rank V C ys → Listed rank W (λ x. B x ⊎ C x) (xs ++ ys)
listed_append {rank = rank} {xs = xs} {ys = ys} o u v l k = record {
  exactly = record {
    sound = λ x m. elim (member_cases x xs ys m) [ inl a ↦ inl (l.exactly.sound x a) | inr b ↦ inr (k.exactly.sound x b) ];
    complete = λ x. elim [ inl b ↦ member_left x xs ys (l.exactly.complete x b) | inr c ↦ member_right x xs ys (k.exactly.complete x c) ];
    ascends = ascends_append rank xs ys l.exactly.ascends k.exactly.ascends
        (λ x y m n. o (rank x) (rank y) (l.under x (l.exactly.sound x m)) (k.under y (k.exactly.sound y n)));
  };
  under = λ x. elim [ inl b ↦ u (rank x) (l.under x b) | inr c ↦ v (rank x) (k.under x c) ];
}

pub listed_when : {X : Type 0} {rank : X → List ℕ} {U : List ℕ → Type 0} (c : Bool) (x : X) → (c ≡ true → U (rank x)) → Listed rank U (λ y. (c ≡ true) × (y ≡ x)) (when c x)
listed_when {X} {rank} {U} true x u = record {
  exactly = record { sound = λ y. elim [ inl e ↦ (refl, e) | inr m ↦ absurd m ]; complete = λ y b. inl b.1; ascends = (λ y m. absurd m, tt) };
  under = λ y b. subst (λ (z : X). U (rank z)) (sym b.1) (u refl);
}
listed_when false x u = listed_none (λ y b. let z : ◌≡◌ {A = ℕ} 0 1 = let e : false ≡ true = b.0 in cc in omega arith)

-- the keys of the elements rise, from low on
abbrev pub Rising : {A : Type 0} → (ℕ → A → ℕ) → ℕ → ℕ → List A → Type 0
Rising key n low [] = Unit {0}
Rising key n low (a ∷ l) = (low ≤ key n a) × Rising key (suc n) (suc (key n a)) l

-- blocks of which each carries its key at one depth of the rank
listed_spots : {A X : Type 0} {rank : X → List ℕ} {B : ℕ → A → X → Type 0} {g : ℕ → A → List X} (p : List ℕ) (key : ℕ → A → ℕ) (n low : ℕ) (l : List A)
    → Rising key n low l → ((i : ℕ) (a : A) → Spot n l i a → Listed rank (Begins (p ++ key i a ∷ [])) (B i a) (g i a))
    → Listed rank (Past p low) (λ x. Somewhere n l (λ i a. B i a x)) (blocks g n l)
unfolding blocks
listed_spots p key n low [] up at = listed_none (λ x b. b.2)
listed_spots {A} {X} {rank} {B} {g} p key n low (a ∷ l) up at =
    listed_like
    (λ x. elim [ inl b ↦ (n, a, inl (refl, refl), b) | inr c ↦ (c.0, c.1, inr c.2, c.3) ])
    (λ x c. split x c.0 c.1 c.2 c.3)
    (λ r u. u)
    (listed_append
    (λ r s u v. past_before p r s (key n a) (suc (key n a)) (omega arith) u v)
    (λ r u. (key n a, up.0, u))
    (λ r v. (v.0, omega (arith, up.0, v.1), v.2))
    (at n a (inl (refl, refl)))
    (listed_spots p key (suc n) (suc (key n a)) l up.1 (λ i b s. at i b (inr s))))
  where
    split : (x : X) (i : ℕ) (b : A) → Spot n (a ∷ l) i b → B i b x → B n a x ⊎ Somewhere (suc n) l (λ j c. B j c x)
    split x i b (inl e) h = inl (subst (λ (y : A). B n y x) e.1 (subst (λ (j : ℕ). B j b x) e.0 h))
    split x i b (inr s) h = inr (i, b, s, h)

-- a narrower kind of rank
pub listed_wide : {X : Type 0} {rank : X → List ℕ} {B : X → Type 0} {xs : List X} (p q : List ℕ) → Listed rank (Begins (p ++ q)) B xs → Listed rank (Begins p) B xs
listed_wide p q = listed_like (λ x b. b) (λ x b. b) (λ r. begins_wide p q r)

pub listed_past : {X : Type 0} {rank : X → List ℕ} {B : X → Type 0} {xs : List X} (p : List ℕ) (low : ℕ) → Listed rank (Past p low) B xs → Listed rank (Begins p) B xs
listed_past p low = listed_like (λ x b. b) (λ x b. b) (λ r u. begins_wide p (u.0 ∷ []) r u.2)

-- the same, by the places of the page
pub listed_blocks : {A X : Type 0} {rank : X → List ℕ} {B : ℕ → A → X → Type 0} {g : ℕ → A → List X} (p : List ℕ) (key : ℕ → A → ℕ) (l : List A)
    → Rising key 0 0 l → ((i : ℕ) (a : A) → Stands l i a → Listed rank (Begins (p ++ key i a ∷ [])) (B i a) (g i a))
    → Listed rank (Begins p) (λ x. Among l (λ i a. B i a x)) (blocks g 0 l)
listed_blocks p key l up at = listed_past p 0 (listed_like
    (λ x b. (b.0, b.1, spot_stands l b.0 b.1 b.2, b.3))
    (λ x b. (b.0, b.1, stands_spot l b.0 b.1 b.2, b.3))
    (λ r u. u)
    (listed_spots p key 0 0 l up (λ i a s. at i a (spot_stands l i a s))))

-- by place
by_place : {A : Type 0} (n low : ℕ) (l : List A) → low ≤ n → Rising (λ i a. i) n low l
by_place n low [] le = tt
by_place n low (a ∷ l) le = (le, by_place (suc n) (suc n) l (omega arith))

places_from : {A X : Type 0} {rank : X → List ℕ} {B : ℕ → A → X → Type 0} {g : ℕ → A → List X} (p : List ℕ) (n : ℕ) (l : List A)
    → ((i : ℕ) (a : A) → Spot n l i a → Listed rank (Begins (p ++ i ∷ [])) (B i a) (g i a))
    → Listed rank (Begins p) (λ x. Somewhere n l (λ i a. B i a x)) (blocks g n l)
places_from p n l at = listed_past p n (listed_spots p (λ i a. i) n n l (by_place n n l (omega arith)) at)

pub listed_places : {A X : Type 0} {rank : X → List ℕ} {B : ℕ → A → X → Type 0} {g : ℕ → A → List X} (p : List ℕ) (l : List A)
    → ((i : ℕ) (a : A) → Stands l i a → Listed rank (Begins (p ++ i ∷ [])) (B i a) (g i a))
    → Listed rank (Begins p) (λ x. Among l (λ i a. B i a x)) (blocks g 0 l)
listed_places p l at = listed_blocks p (λ i a. i) l (by_place 0 0 l (omega arith)) at

-- by the number of a table's row
abbrev pub rising : {A : Type 0} → (A → ℕ) → ℕ → List A → Bool
rising key low [] = true
rising key low (a ∷ l) = leb low (key a) && rising key (suc (key a)) l

by_key : {A : Type 0} (key : A → ℕ) (n low : ℕ) (l : List A) → rising key low l ≡ true → Rising (λ i a. key a) n low l
by_key key n low [] e = tt
by_key key n low (a ∷ l) e = let h = and_parts (leb low (key a)) (rising key (suc (key a)) l) e in (leb-true low (key a) h.0, by_key key (suc n) (suc (key a)) l h.1)

pub listed_table : {A X : Type 0} {rank : X → List ℕ} {B : ℕ → A → X → Type 0} {g : ℕ → A → List X} (p : List ℕ) (key : A → ℕ) (l : List A) → rising key 0 l ≡ true
    → ((i : ℕ) (a : A) → Stands l i a → Listed rank (Begins (p ++ key a ∷ [])) (B i a) (g i a))
    → Listed rank (Begins p) (λ x. Among l (λ i a. B i a x)) (blocks g 0 l)
listed_table p key l up at = listed_blocks p (λ i a. key a) l (by_key key 0 0 l up) at

pub listed_later : {A X : Type 0} {rank : X → List ℕ} {B : ℕ → A → X → Type 0} {g : ℕ → A → List X} (p : List ℕ) (i : ℕ) (l : List A)
    → ((j : ℕ) (a : A) → i < j → Stands l j a → Listed rank (Begins (p ++ j ∷ [])) (B j a) (g j a))
    → Listed rank (Begins p) (λ x. Among l (λ j a. (i < j) × B j a x)) (blocks g (suc i) (drop (suc i) l))
listed_later p i l at =
    listed_like
    (λ x b. let h = spot_drop (suc i) (suc i) 0 l b.0 b.1 (omega arith) b.2 in (b.0, b.1, spot_stands l b.0 b.1 h.1, (h.0, b.3)))
    (λ x b. (b.0, b.1, drop_spot (suc i) (suc i) 0 l b.0 b.1 (omega arith) b.3.0 (stands_spot l b.0 b.1 b.2), b.3.1))
    (λ r u. u)
    (places_from p (suc i) (drop (suc i) l) (λ j a s. let h = spot_drop (suc i) (suc i) 0 l j a (omega arith) s in at j a h.0 (spot_stands l j a h.1)))

-- a rank that is known begins with its first d numbers
begins_take : (d : ℕ) (r : List ℕ) → Begins (take d r) r
begins_take zero r = tt
begins_take (suc d) [] = tt
begins_take (suc d) (x ∷ r) = (refl, begins_take d r)

pub listed_leaf : {X : Type 0} {rank : X → List ℕ} {c : Bool} {x : X} (d : ℕ) (r : List ℕ) → (c ≡ true → rank x ≡ r) → Listed rank (Begins (take d r)) (λ y. (c ≡ true) × (y ≡ x)) (when c x)
listed_leaf {c = c} {x = x} d r e = listed_when c x (λ h. subst (Begins (take d r)) (sym (e h)) (begins_take d r))

pub listed_earlier : {A X : Type 0} {rank : X → List ℕ} {B : ℕ → A → X → Type 0} {g : ℕ → A → List X} (p : List ℕ) (i : ℕ) (l : List A)
    → ((j : ℕ) (a : A) → j < i → Stands l j a → Listed rank (Begins (p ++ j ∷ [])) (B j a) (g j a))
    → Listed rank (Begins p) (λ x. Among l (λ j a. (j < i) × B j a x)) (blocks g 0 (take i l))
listed_earlier p i l at =
    listed_like
    (λ x b. let h = spot_take i i 0 l b.0 b.1 (omega arith) b.2 in (b.0, b.1, spot_stands l b.0 b.1 h.1, (h.0, b.3)))
    (λ x b. (b.0, b.1, take_spot i i 0 l b.0 b.1 (omega arith) b.3.0 (stands_spot l b.0 b.1 b.2), b.3.1))
    (λ r u. u)
    (places_from p 0 (take i l) (λ j a s. let h = spot_take i i 0 l j a (omega arith) s in at j a h.0 (spot_stands l j a h.1)))
