-- What pins the definitions at literal figures: questions with their answers, each range at its ends and past them, and the margin.
use Rattle.std.specs.Prelude.{◌≡◌, List, [], ◌∷◌, map, ℕ, suc, ◌*◌, ◌≤◌, Ok}
use Rattle.exact.specs.Quotient.{whole}
use Rattle.exact.specs.Fraction.{◌<ʳ◌}
use Rattle.exact.specs.Root.{AtLeastRoot}
use Rattle.fields.specs.Refusal.{plain}
use Rattle.slender.specs.declared.tank.SlenderTank.{SlenderTank}
use Rattle.slender.specs.declared.tank.Accelerations.{Accelerations}
use Rattle.slender.specs.Moments.{unrounded_square}
use Rattle.slender.specs.Question.{MomentCode, moment_code, earthquake_moment, margin, ReplyJustified}

-- a question: D, H and gravity; shell and roof, each by weight and height; Ai, Ac
pub record Question : Type 0 where
  pub tank : SlenderTank
  pub ground : Accelerations

abbrev pub question : ℕ → ℕ → ℕ → ℕ → ℕ → ℕ → ℕ → ℕ → ℕ → Question
question D H G Ws Xs Wr Xr Ai Ac =
    record {
      tank =
          record {
            contents = record { diameter = D; level = H; gravity = G };
            shell = record { weight = Ws; height = Xs };
            roof = record { weight = Wr; height = Xr };
          };
      ground = record { impulsive = Ai; convective = Ac };
    }

abbrev pub answered : Question → MomentCode
answered q = moment_code (earthquake_moment q.tank q.ground)

pub record MomentCase : Type 0 where
  pub asked : Question
  pub answer : MomentCode

abbrev pub Answered : List MomentCase → Type 0
Answered cases = map (λ (q : MomentCase). answered q.asked) cases ≡ map (λ (q : MomentCase). q.answer) cases

infix 20 ◌gives◌
abbrev pub ◌gives◌ : Question → ℕ → MomentCase
q gives M = record { asked = q; answer = record { code = plain 0; moment = M } }

infix 20 ◌refused◌
abbrev pub ◌refused◌ : Question → ℕ → MomentCase
q refused number = record { asked = q; answer = record { code = plain number; moment = 0 } }

-- 31.4 and 65.9 above the unrounded figure: Wi and Wc are rounded up by nearly a pound, and stand at 31 ft and 64 ft
abbrev pub impulsive_far : Question
impulsive_far = question 17964 76800 1000 1 0 1 0 1000 0

abbrev pub convective_far : Question
convective_far = question 76312 76772 1066 1 0 1 0 10 1000

abbrev pub moment_cases : List MomentCase
moment_cases =
    -- 12 ft across, 24 ft of water, typical weights and accelerations: Wi 150,913 and Wc 19,479, moments 436,975 and 28,050
    (question 14400 28800 1000 7000 14400 4000 28800 240 60 gives 437875)
    ∷ (question 14400 28800 1300 7000 14400 4000 28800 240 60 gives 556304)
    ∷ (question 14400 28800 1000 7000 14400 4000 28800 0 60 gives 28050)  -- Ac Wc H alone
    ∷ (question 14400 28800 1000 7000 14400 4000 28800 240 0 gives 436975)
    ∷ (question 14400 28800 1000 7000 14400 4000 28800 0 0 gives 0)
    ∷ (question 14400 28800 1000 7000 76800 4000 28801 240 60 gives 525086)  -- heights above H
    -- heights in hundredths of an inch: no term of a moment is rounded by itself, nor the water's weight
    ∷ (question 14400 28800 1000 7025 14371 4027 28828 727 0 gives 1324302)
    ∷ (question 14978 29767 1000 7000 14400 4000 28800 0 919 gives 499678)
    ∷ (impulsive_far gives 20407431)
    ∷ (convective_far gives 197723460)
    -- moments 4,879,772 and 83,421, whose squares are together that of 4,880,485; then one more
    ∷ (question 12000 24000 1000 4088525 1200 1 0 1000 370 gives 4880485)
    ∷ (question 12000 24000 1000 4088526 1200 1 0 1000 370 gives 4880486)
    -- the most that is answered, and one more
    ∷ (question 100000 76800 1300 5466310 76800 22 1200 1000 1000 gives 1000000000)
    ∷ (question 100000 76800 1300 5466310 76800 23 1200 1000 1000 refused 45)
    ∷ (question 102374 76800 1300 10000000 76800 10000000 76800 1000 1000 refused 45)
    -- 1,000 × D is 1,333 × H, and one hundredth of an inch less
    ∷ (question 15996 12000 1000 1 0 1 0 1 1 refused 44)
    ∷ (question 15995 12000 1000 1 0 1 0 1 1 gives 354)
    -- 40 before 44, 44 before 45, 40 before 45
    ∷ (question 240000 76800 1301 10000000 76800 10000000 76800 1000 1000 refused 40)
    ∷ (question 240000 76800 1300 10000000 76800 10000000 76800 1000 1000 refused 44)
    ∷ (question 102374 76800 1300 10000000 76800 10000000 76800 1000 1001 refused 40)
    ∷ []

-- each figure of the first question at the ends of its range, and past them
abbrev pub end_cases : List MomentCase
end_cases =
    (question 11999 28800 1000 7000 14400 4000 28800 240 60 refused 40)
    ∷ (question 12000 28800 1000 7000 14400 4000 28800 240 60 gives 327460)
    ∷ (question 240000 28800 1000 7000 14400 4000 28800 240 60 refused 44)
    ∷ (question 240001 28800 1000 7000 14400 4000 28800 240 60 refused 40)
    ∷ (question 14400 1199 1000 7000 14400 4000 28800 240 60 refused 40)
    ∷ (question 14400 1200 1000 7000 14400 4000 28800 240 60 refused 44)
    ∷ (question 14400 76800 1000 7000 14400 4000 28800 240 60 gives 3253790)
    ∷ (question 14400 76801 1000 7000 14400 4000 28800 240 60 refused 40)
    ∷ (question 14400 28800 999 7000 14400 4000 28800 240 60 refused 40)
    ∷ (question 14400 28800 1301 7000 14400 4000 28800 240 60 refused 40)
    ∷ (question 14400 28800 1000 0 14400 4000 28800 240 60 refused 40)
    ∷ (question 14400 28800 1000 1 14400 4000 28800 240 60 gives 417761)
    ∷ (question 14400 28800 1000 10000000 14400 4000 28800 240 60 gives 29216829)
    ∷ (question 14400 28800 1000 10000001 14400 4000 28800 240 60 refused 40)
    ∷ (question 14400 28800 1000 7000 0 4000 28800 240 60 gives 417758)
    ∷ (question 14400 28800 1000 7000 76801 4000 28800 240 60 refused 40)
    ∷ (question 14400 28800 1000 7000 14400 0 28800 240 60 refused 40)
    ∷ (question 14400 28800 1000 7000 14400 1 28800 240 60 gives 414891)
    ∷ (question 14400 28800 1000 7000 14400 10000000 28800 240 60 gives 58013942)
    ∷ (question 14400 28800 1000 7000 14400 10000001 28800 240 60 refused 40)
    ∷ (question 14400 28800 1000 7000 14400 4000 0 240 60 gives 414885)
    ∷ (question 14400 28800 1000 7000 14400 4000 76800 240 60 gives 476202)
    ∷ (question 14400 28800 1000 7000 14400 4000 76801 240 60 refused 40)
    ∷ (question 14400 28800 1000 7000 14400 4000 28800 1000 60 gives 1820944)
    ∷ (question 14400 28800 1000 7000 14400 4000 28800 1001 60 refused 40)
    ∷ (question 14400 28800 1000 7000 14400 4000 28800 240 1000 gives 639922)
    ∷ (question 14400 28800 1000 7000 14400 4000 28800 240 1001 refused 40)
    ∷ []

-- 199 is within the margin above 100, and 200 is not
pub record MarginPinned : Type 0 where
  pub within : AtLeastRoot (whole (100 * 100)) margin 199
  pub at : AtLeastRoot (whole (100 * 100)) margin 200 → ⊥

-- the unrounded figure of a question is above k and below k + 1
pub record UnroundedBetween (q : Question) (k : ℕ) : Type 0 where
  pub above : whole (k * k) <ʳ unrounded_square q.tank q.ground
  pub below : unrounded_square q.tank q.ground <ʳ whole (suc k * suc k)

-- of the two questions with answers far above it
pub record UnroundedPinned : Type 0 where
  pub impulsive : UnroundedBetween impulsive_far 20407399
  pub convective : UnroundedBetween convective_far 197723394

-- What the clause of the contract alone comes to for the second of these: the moment is above 197,723,394, and at most 100 above that.
abbrev pub PromisedFar : Type 0
PromisedFar = (M : ℕ) → ReplyJustified convective_far.tank convective_far.ground (Ok M) → (197723395 ≤ M) × (M ≤ 197723494)
