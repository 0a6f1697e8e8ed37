-- The record of the settings, and the same settings but for some of them, as records have no update.
use Rattle.std.specs.Prelude.{Bool, List, ℕ}

pub record Settings : Type 0 where
  pub ctrl0 : ℕ
  pub ctrl1 : ℕ
  pub btr0 : ℕ
  pub btr1 : ℕ
  pub inte : ℕ
  pub statfe : ℕ
  pub gpine : ℕ
  -- "eight filters and eight masks of six bytes each"
  pub filters : List (List ℕ)
  pub masks : List (List ℕ)
  -- the level of the TXEN pin
  pub pin : Bool
  -- the mode that acts, and whether a sleep waits
  pub acting : ℕ
  pub waits : Bool

abbrev pub with_ctrl1 : Settings → ℕ → Settings
with_ctrl1 s v = record { ctrl0 = s.ctrl0; ctrl1 = v; btr0 = s.btr0; btr1 = s.btr1; inte = s.inte; statfe = s.statfe; gpine = s.gpine; filters = s.filters; masks = s.masks; pin = s.pin; acting = s.acting; waits = s.waits }

abbrev pub with_btr0 : Settings → ℕ → Settings
with_btr0 s v = record { ctrl0 = s.ctrl0; ctrl1 = s.ctrl1; btr0 = v; btr1 = s.btr1; inte = s.inte; statfe = s.statfe; gpine = s.gpine; filters = s.filters; masks = s.masks; pin = s.pin; acting = s.acting; waits = s.waits }

abbrev pub with_btr1 : Settings → ℕ → Settings
with_btr1 s v = record { ctrl0 = s.ctrl0; ctrl1 = s.ctrl1; btr0 = s.btr0; btr1 = v; inte = s.inte; statfe = s.statfe; gpine = s.gpine; filters = s.filters; masks = s.masks; pin = s.pin; acting = s.acting; waits = s.waits }

abbrev pub with_inte : Settings → ℕ → Settings
with_inte s v = record { ctrl0 = s.ctrl0; ctrl1 = s.ctrl1; btr0 = s.btr0; btr1 = s.btr1; inte = v; statfe = s.statfe; gpine = s.gpine; filters = s.filters; masks = s.masks; pin = s.pin; acting = s.acting; waits = s.waits }

abbrev pub with_statfe : Settings → ℕ → Settings
with_statfe s v = record { ctrl0 = s.ctrl0; ctrl1 = s.ctrl1; btr0 = s.btr0; btr1 = s.btr1; inte = s.inte; statfe = v; gpine = s.gpine; filters = s.filters; masks = s.masks; pin = s.pin; acting = s.acting; waits = s.waits }

abbrev pub with_gpine : Settings → ℕ → Settings
with_gpine s v = record { ctrl0 = s.ctrl0; ctrl1 = s.ctrl1; btr0 = s.btr0; btr1 = s.btr1; inte = s.inte; statfe = s.statfe; gpine = v; filters = s.filters; masks = s.masks; pin = s.pin; acting = s.acting; waits = s.waits }

abbrev pub with_filters : Settings → List (List ℕ) → Settings
with_filters s v = record { ctrl0 = s.ctrl0; ctrl1 = s.ctrl1; btr0 = s.btr0; btr1 = s.btr1; inte = s.inte; statfe = s.statfe; gpine = s.gpine; filters = v; masks = s.masks; pin = s.pin; acting = s.acting; waits = s.waits }

abbrev pub with_masks : Settings → List (List ℕ) → Settings
with_masks s v = record { ctrl0 = s.ctrl0; ctrl1 = s.ctrl1; btr0 = s.btr0; btr1 = s.btr1; inte = s.inte; statfe = s.statfe; gpine = s.gpine; filters = s.filters; masks = v; pin = s.pin; acting = s.acting; waits = s.waits }

abbrev pub with_pin : Settings → Bool → Settings
with_pin s v = record { ctrl0 = s.ctrl0; ctrl1 = s.ctrl1; btr0 = s.btr0; btr1 = s.btr1; inte = s.inte; statfe = s.statfe; gpine = s.gpine; filters = s.filters; masks = s.masks; pin = v; acting = s.acting; waits = s.waits }

-- CTRL0, the mode that acts, and whether a sleep waits
abbrev pub with_mode : Settings → ℕ → ℕ → Bool → Settings
with_mode s ctrl0 acting waits = record { ctrl0 = ctrl0; ctrl1 = s.ctrl1; btr0 = s.btr0; btr1 = s.btr1; inte = s.inte; statfe = s.statfe; gpine = s.gpine; filters = s.filters; masks = s.masks; pin = s.pin; acting = acting; waits = waits }
