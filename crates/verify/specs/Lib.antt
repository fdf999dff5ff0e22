-- The checker: the certificate that it tests, and what a call answers and leaves. Read in this order.
pub mod Certificate
pub mod Check
pub mod Promise
pub mod Steps
