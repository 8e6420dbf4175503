-- What document 01 says of first fit: each task has the lowest-numbered processor with room, each load is at most S, and when every
-- task is placed the loads of the processors add up to the sum of the tasks' loads.
-- Assumes nothing.
use Rattle.ground.proofs.Kit.{ℕ, zero, suc, ◌+◌, ◌*◌, ◌≤◌, ◌<◌, true, List, ◌≡◌, refl, ◌∙◌, ap, arith, eqb, leb, length, get_or, replicate, length-set}
use Rattle.ground.proofs.Kit.{length-replicate, get_or-replicate, get_or-set_same, get_or-set_other, eqb-true, leb-true, leb-false}
use Rattle.ground.specs.First.{first_below, IsFirst}
use Rattle.ground.specs.Folds.{sum_to}
use Rattle.ground.proofs.Cases.{by-eq}
use Rattle.ground.proofs.First.{first-is, first_cong}
use Rattle.ground.proofs.Folds.{sum-most, sum-cong}
use Rattle.kinds.specs.Limits.{scale, most_processors}
use Rattle.fit.specs.Fit.{has_room, lowest_room, loaded, loads_after, place_at, stuck_at, fits}

sum-zero : (m : ℕ) → sum_to (λ j. 0) m ≡ 0
unfolding sum_to
sum-zero zero = refl
sum-zero (suc m) = omega (arith, sum-zero m)

-- one more load at processor p makes the sum of the loads so much greater
sum-loaded : (loads : List ℕ) (p load m : ℕ) → p < length loads
    → (m ≤ p → sum_to (λ j. get_or (loaded loads p load) j 0) m ≡ sum_to (λ j. get_or loads j 0) m)
    × (p < m → sum_to (λ j. get_or (loaded loads p load) j 0) m ≡ sum_to (λ j. get_or loads j 0) m + load)
unfolding sum_to
sum-loaded loads p load zero l = (λ h. refl, λ h. absurd (omega arith))
sum-loaded loads p load (suc m) l =
    let ih = sum-loaded loads p load m l in
    let other : (m ≡ p → ⊥) → get_or (loaded loads p load) m 0 ≡ get_or loads m 0 = get_or-set_other loads p m (get_or loads p 0 + load) 0 in (
      λ h. omega (arith, ih.0 (omega arith), other (λ e. omega arith)),
      λ h. by-eq m p
          (λ e. omega (arith, ih.0 (omega arith), ap (λ (x : ℕ). get_or (loaded loads p load) x 0) e, ap (λ (x : ℕ). get_or loads x 0) e, get_or-set_same loads p (get_or loads p 0 + load) 0 l))
          (λ d. omega (arith, ih.1 (omega (arith, d)), other d)),
    )

module _ (m : ℕ) (load : ℕ → ℕ) where
  -- "give each to the lowest-numbered processor whose load with it is at most S"
  pub lowest : (i : ℕ) → IsFirst (has_room (loads_after m load i) (load i)) m (place_at m load i)
  unfolding place_at lowest_room
  lowest i = first-is (has_room (loads_after m load i) (load i)) m

  -- every task is placed: each has a processor
  pub fits-placed : (n : ℕ) → fits m load n ≡ true → (i : ℕ) → i < n → place_at m load i < m
  unfolding fits stuck_at
  fits-placed n e i l =
      let f = first-is (λ x. leb m (place_at m load x)) n in
      let q : first_below (λ x. leb m (place_at m load x)) n ≡ n = eqb-true _ _ e in
      leb-false m (place_at m load i) (f.before i (omega arith))

  pub after-long : (i : ℕ) → length (loads_after m load i) ≡ most_processors
  unfolding loads_after
  after-long zero = length-replicate {A = ℕ} most_processors 0
  after-long (suc i) = length-set (loads_after m load i) _ _ ∙ after-long i

  pub after_more : (i : ℕ) → loads_after m load (suc i) ≡ loaded (loads_after m load i) (place_at m load i) (load i)
  unfolding loads_after place_at
  after_more i = refl

  -- no processor is overfull, as long as each task is placed
  pub load-most : m ≤ most_processors → (i : ℕ) → ((x : ℕ) → x < i → place_at m load x < m)
      → (j : ℕ) → j < m → get_or (loads_after m load i) j 0 ≤ scale
  unfolding loads_after
  load-most few zero h j l = omega (arith, get_or-replicate {A = ℕ} most_processors j 0 0 (omega arith))
  load-most few (suc i) h j l =
      let p = place_at m load i in
      let ls = loads_after m load i in
      let inside : p < length ls = omega (arith, after-long i, h i (omega arith)) in
      rw (after_more i)
      (by-eq j p
      (λ e. rw (e, get_or-set_same ls p (get_or ls p 0 + load i) 0 inside) (leb-true _ _ ((lowest i).there (h i (omega arith)))))
      (λ d. rw (get_or-set_other ls p j (get_or ls p 0 + load i) 0 d) (load-most few i (λ x g. h x (omega arith)) j l)))

  -- "When every task is placed, the loads of the processors add up to the sum of the shares."
  add-up : m ≤ most_processors → (i : ℕ) → ((x : ℕ) → x < i → place_at m load x < m)
      → sum_to (λ j. get_or (loads_after m load i) j 0) m ≡ sum_to load i
  unfolding loads_after sum_to
  add-up few zero h = sum-cong (λ j. get_or (replicate most_processors 0) j 0) (λ j. 0) m (λ j l. get_or-replicate {A = ℕ} most_processors j 0 0 (omega arith)) ∙ sum-zero m
  add-up few (suc i) h =
      let inside : place_at m load i < length (loads_after m load i) = omega (arith, after-long i, h i (omega arith)) in
      rw (after_more i)
      ((sum-loaded (loads_after m load i) (place_at m load i) (load i) m inside).1 (h i (omega arith))
      ∙ ap (λ (x : ℕ). x + load i) (add-up few i (λ x l. h x (omega arith))))

  pub loads-add-up : (n : ℕ) → m ≤ most_processors → fits m load n ≡ true → sum_to (λ j. get_or (loads_after m load n) j 0) m ≡ sum_to load n
  loads-add-up n few e = add-up few n (fits-placed n e)

  pub each-load-most : (n : ℕ) → m ≤ most_processors → fits m load n ≡ true → (j : ℕ) → j < m → get_or (loads_after m load n) j 0 ≤ scale
  each-load-most n few e = load-most few n (fits-placed n e)

  -- so loads that add up to more than the processors have do not fit
  pub fits-within : (n : ℕ) → m ≤ most_processors → fits m load n ≡ true → sum_to load n ≤ scale * m
  fits-within n few e =
      omega (arith, loads-add-up n few e, sum-most (λ j. get_or (loads_after m load n) j 0) m scale (each-load-most n few e))

-- first fit looks at the loads of the first n tasks only
module _ (m : ℕ) (f g : ℕ → ℕ) where
  after_same : (i : ℕ) → ((x : ℕ) → x < i → f x ≡ g x) → loads_after m f i ≡ loads_after m g i
  unfolding loads_after
  after_same zero h = refl
  after_same (suc i) h =
      let e = after_same i (λ x l. h x (omega arith)) in
      let q = h i (omega arith) in
      rw (loads_after, e, q)

  module _ (n : ℕ) (h : (x : ℕ) → x < n → f x ≡ g x) where
    pub place_same : (i : ℕ) → i < n → place_at m f i ≡ place_at m g i
    unfolding place_at
    place_same i l =
        let e = after_same i (λ x k. h x (omega arith)) in
        let q = h i l in
        rw (e, q)

    pub fits-same : fits m f n ≡ fits m g n
    unfolding fits stuck_at
    fits-same =
        ap (λ (x : ℕ). eqb x n)
        (first_cong (λ i. leb m (place_at m f i)) (λ i. leb m (place_at m g i)) n (λ i l. ap (leb m) (place_same i l)))
