-- What links lead to.

-- from one node to another by any number of links
pub data Reach (N : Type 0) (Leads : N → N → Type 0) : N → N → Type 0 where
  here : {u : N} → Reach N Leads u u
  along : {u v w : N} → Leads u v → Reach N Leads v w → Reach N Leads u w

-- each of two nodes leads to the other: they are in one strong component
abbrev pub Together : {N : Type 0} → (N → N → Type 0) → N → N → Type 0
Together {N} Leads u v = Reach N Leads u v × Reach N Leads v u
