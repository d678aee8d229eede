-- What an output holds back after texts that are written one after another.
use Rattle.std.proofs.Common.{◌≡◌, ◌∙◌, ℕ, ◌+◌, ◌-◌, ◌^◌, ◌==◌, Bool, true, false, cond, refl, ap, subst, inl, inr, arith, sym, true≢false, ⊎_elim}
use Rattle.hwdb_spec.specs.Failures.{after_failure, HasFailed, OneFailed}
use Rattle.hwdb_spec.specs.Flushing.{HandsOn, HasHandedOn}
use Rattle.hwdb_spec.specs.Lemmas.Calls.{failed_call}

-- a text is written, without a failed call, and after it others
pub hands_on_twice : (A B C : Type 0) (f g h : ℕ) → g ≡ f → HandsOn A B f g → HandsOn B C g h → HandsOn A C f h
hands_on_twice A B C f g h same one two =
    ⊎_elim
    (λ failed. inl (failed ∙ ap after_failure same))
    (λ more. ⊎_elim (λ failed. inl (more.0 ∙ failed)) (λ less. inr (more.0 ∙ same, λ a. more.1 (less.1 a))) one)
    two

-- what is so of a call is so of a run of it alone
pub handed_on : (A B : Type 0) (f g : ℕ) → HandsOn A B f g → HasHandedOn A B f g
handed_on A B f g one = ⊎_elim (λ failed. inl (failed_call f g failed)) (λ more. inr more.1) one

stays : (g : ℕ) (b : Bool) → (g == 2 ^ 64 - 1) ≡ b → g ≡ 2 ^ 64 - 1 → cond b g (g + 1) ≡ g
stays g true e most = refl
stays g false e most = absurd (true≢false (sym (ap (λ n. n == 2 ^ 64 - 1) most) ∙ e))

-- two calls have failed, one after the other
failed_twice : (f g h : ℕ) → OneFailed f g → OneFailed g h → HasFailed f h
failed_twice f g h one two =
    let Q : ℕ → Type 0 = λ n. HasFailed f n in
    ⊎_elim
    (λ more. ⊎_elim (λ again. inl (omega (arith, more, again))) (λ most. subst Q (sym (two ∙ stays g (g == 2 ^ 64 - 1) refl most)) (inl more)) (failed_call g h two))
    (λ most. inr most)
    (failed_call f g one)

-- whatever came of the first text, another one is written
pub handed_on_twice : (A B C : Type 0) (f g h : ℕ) → HandsOn A B f g → HandsOn B C g h → HasHandedOn A C f h
handed_on_twice A B C f g h one two =
    let Q : ℕ → Type 0 = λ n. HasFailed f n in
    let R : ℕ → Type 0 = λ n. HasFailed n h in
    ⊎_elim
    (λ failed. inl (⊎_elim (λ again. failed_twice f g h failed again) (λ more. subst Q (sym more.0) (failed_call f g failed)) two))
    (λ less. ⊎_elim (λ again. inl (subst R less.0 (failed_call g h again))) (λ more. inr (λ a. more.1 (less.1 a))) two)
    one
