-- Nothing is asked.
abbrev pub Free : {X : Type 0} → X → Type 0
Free {X} x = Unit {0}
