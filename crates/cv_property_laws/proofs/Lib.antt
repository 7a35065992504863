mod Values
mod FontSizes
mod KeptValues
